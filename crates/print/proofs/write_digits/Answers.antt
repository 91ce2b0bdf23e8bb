-- `print::write_digits` meets its contract.
use mathlib.Core.Path.{subst}
use native.Mathlib.Omega.{arith}
use Prim.Native.Nat.{ℕ}
use Rattle.print.proofs.Prints.{Digits, digits_more, digits-done}
use Rattle.print.proofs.write_digits.Goals as goal

pub loop-i-preserved : goal.loop-i-preserved
loop-i-preserved c = rw c.digit_of.ensures (digits_more c.loop-i.invariant (omega arith))

pub returns : goal.returns
returns c =
    let P : ℕ → Type 0 = λ k. Digits c.args.out.now c.args.base c.args.n c.loop-i.out k c.loop-i.rest in
    digits-done (subst P (omega arith) c.loop-i.invariant)
