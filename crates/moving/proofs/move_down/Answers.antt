-- `moving::move_down` meets its contract.
use Rattle.std.proofs.Common.{◌≡◌, ◌+◌, ◌*◌, min, arith}
use Rattle.moving.proofs.Moves.{record_width, batch_down}
use Rattle.moving.proofs.move_down.Goals as goal

pub loop-i-preserved : goal.loop-i-preserved
loop-i-preserved g c =
    let a = c.args in
    let inside = c.requires.shifted_in_record in
    let l = c.loop-i in
    let n = c.min-n.result in
    let done : min (128 * l.i) a.count ≡ 128 * l.i = omega (arith, c.loop-i-test.true, c.div_ceil-i-end.ensures) in
    let more : min (128 * (l.i + 1)) a.count ≡ 128 * l.i + n = omega (arith, done, c.min-n.ensures) in
    batch_down (record_width g.row.SIZE g.row.A g.row.B a.d a.e inside.0 inside.1) a.ws.now l.ws c.bring_records.new.ws a.from a.to n
    (128 * l.i) (min (128 * l.i) a.count) (min (128 * (l.i + 1)) a.count) c.requires.downward done more l.invariant c.bring_records.ensures
