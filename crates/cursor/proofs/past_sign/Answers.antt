-- `cursor::past_sign` meets its contract.
use Prim.Native.Nat.{◌+◌, ◌/◌, ◌%◌}
use mathlib.Core.Path.{◌≡◌}
use native.Mathlib.Omega.{arith}
use Rattle.cursor.proofs.past_sign.Goals as goal

-- a code below 128 is the kind of a sign of one byte
pub returns-then-code-lt128 : goal.returns-then-code-lt128
returns-then-code-lt128 g c =
    let n = c.args.code in
    let below = c.if-code-lt128.true in
    let kind : n % 128 ≡ n = omega (arith, below) in
    let size : n / 128 + 1 ≡ 1 = omega (arith, below) in
    rw (kind, size) c.past_token.ensures
