-- `moving::move_down` meets its contract. So far the records of i batches are moved.
use Rattle.std.proofs.Common.{◌≡◌, ◌*◌, min}
use Rattle.std.proofs.lemmas.List.Edits.{sets}
use Rattle.moving.specs.Moved.{moved_records}
use Rattle.moving.proofs.move_down.Given as goal

abbrev pub invariant-loop-i : goal.invariant-loop-i
invariant-loop-i g l =
    l.ws ≡ sets l.fn.ws (g.row.SIZE * l.to) (moved_records g.row.SIZE g.row.A g.row.B l.d l.e l.fn.ws l.from (min (128 * l.i) l.count))
