-- `moving::move_up` meets its contract.
use Rattle.std.proofs.Common.{◌≡◌, ◌+◌, ◌-◌, ◌*◌, ℕ, min, arith}
use Rattle.moving.proofs.Moves.{record_width, batch_up}
use Rattle.moving.proofs.move_up.Goals as goal

pub loop-i-preserved : goal.loop-i-preserved
loop-i-preserved g c =
    let a = c.args in
    let inside = c.requires.shifted_in_record in
    let l = c.loop-i in
    let n = c.min-n.result in
    let i : ℕ = l.i - 1 in
    let left : ℕ = min (128 * i) a.count in
    let x : ℕ = min (128 * l.i) a.count in
    let here : left ≡ 128 * i = omega (arith, c.loop-i-test.true, l.auto.i, c.div_ceil-i.ensures) in
    let next : x ≡ 128 * i + n = omega (arith, here, c.loop-i-test.true, c.min-n.ensures) in
    let more : a.count - left ≡ n + (a.count - x) = omega (arith, here, next) in
    batch_up (record_width g.row.SIZE g.row.A g.row.B a.d a.e inside.0 inside.1) a.ws.now l.ws c.bring_records.new.ws a.from a.to n
    (128 * i) left x (a.count - x) (a.count - left) c.requires.upward here next more l.invariant c.bring_records.ensures
