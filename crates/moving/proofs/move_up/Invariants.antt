-- `moving::move_up` meets its contract. So far the records from batch i on are moved.
use Rattle.std.proofs.Common.{◌≡◌, ◌+◌, ◌-◌, ◌*◌, min}
use Rattle.std.proofs.lemmas.List.Edits.{sets}
use Rattle.laws.specs.Blocks.{blocks}
use Rattle.moving.specs.Moved.{moved_record}
use Rattle.moving.proofs.move_up.Given as goal

abbrev pub invariant-loop-i : goal.invariant-loop-i
invariant-loop-i g l =
    let j = min (128 * l.i) l.count in
    l.ws ≡ sets l.fn.ws (g.row.SIZE * (l.to + j)) (blocks (λ i. moved_record g.row.SIZE g.row.A g.row.B l.d l.e l.fn.ws (g.row.SIZE * (l.from + i))) j (l.count - j))
