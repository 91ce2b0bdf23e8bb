-- `moving::move_records` meets its contract: where nothing moves, the records are the words where they stand.
use Rattle.std.proofs.Common.{◌≡◌, ◌+◌, ◌*◌, sym, ap, ◌∙◌, arith}
use lib.Seq.{sets}
use Rattle.moving.specs.Moved.{moved_record, moved_records}
use Rattle.moving.proofs.Moves.{record_kept, blocks_still}
use Rattle.moving.proofs.move_records.Goals as goal

pub returns-else-e-ne0 : goal.returns-else-e-ne0
returns-else-e-ne0 g c =
    let a = c.args in
    let l = a.ws.now in
    let w = g.row.SIZE in
    let inside = c.requires.shifted_in_record in
    let kept = record_kept w g.row.A g.row.B a.d a.e inside.0 inside.1 l (λ i. omega (arith, c.type_inv.ws i)) c.if-d-ne0.false c.if-e-ne0.false in
    let here : a.from + 0 ≡ a.to = omega (arith, c.if-from-to.false, c.if-to-from.false) in
    sym (blocks_still w l (λ j. moved_record w g.row.A g.row.B a.d a.e l (w * (a.from + j))) a.from (λ j. kept (w * (a.from + j))) 0 a.count)
    ∙ ap (λ k. sets l (w * k) (moved_records w g.row.A g.row.B a.d a.e l a.from a.count)) here
