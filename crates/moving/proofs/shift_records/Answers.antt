-- `moving::shift_records` meets its contract.
use Rattle.std.proofs.Common.{◌+◌, ◌*◌, arith}
use Rattle.moving.proofs.Moves.{record_width, down_turn}
use Rattle.moving.proofs.shift_records.Goals as goal

pub loop-j-preserved : goal.loop-j-preserved
loop-j-preserved g c =
    let a = c.args in
    let inside = c.requires.shifted_in_record in
    let w = g.row.SIZE in
    let l = c.loop-j in
    down_turn (record_width w g.row.A g.row.B a.d a.e inside.0 inside.1) a.ws.now (λ i. w * (a.from + i)) l.ws c.shift_record.new.ws (w * a.from) l.j (w * (a.from + l.j)) c.shift_record.ensures l.invariant (omega arith) (omega arith)
