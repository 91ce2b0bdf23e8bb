-- `literals::high_digit_cut` meets its contract.
use Prim.Native.Nat.{◌+◌}
use mathlib.Core.Path.{sym, ◌∙◌}
use native.Mathlib.Omega.{arith}
use Rattle.literals.proofs.Steps.{high_end, high_digit, high-above, high-other}
use Rattle.literals.proofs.high_digit_cut.Goals.{in_default-via-then-line-at-lt48, in_default-via-else-line-at-lt48+else-line-at-lt56}
use Rattle.literals.proofs.high_digit_cut.Goals as goal

pub returns-then-line-at : goal.returns-then-line-at
returns-then-line-at c =
    let a = c.args in
    c.line_ends.ensures ∙ sym (high_end a.line.now (a.at + 4) (omega arith))

pub returns-in-48-to-55 : goal.returns-in-48-to-55
returns-in-48-to-55 c =
    let a = c.args in
    c.low_digit_cut.ensures ∙ sym (high_digit a.line.now (a.at + 4) (omega arith) (a.at + 5) (omega arith) (omega arith) (omega arith))

pub returns-in_default : goal.returns-in_default
returns-in_default c =
    let a = c.args in
    c.failing_at.ensures
    ∙ sym (high-above a.line.now (a.at + 4) (omega arith)
    (λ h k. elim c.in_default-1.branch [ in_default-via-then-line-at-lt48 w ↦ omega arith | in_default-via-else-line-at-lt48+else-line-at-lt56 w ↦ omega arith ])
    (sym c.is_hex_digit.ensures ∙ c.if-is_hex_digit.true))

pub returns-in_default-2 : goal.returns-in_default-2
returns-in_default-2 c =
    let a = c.args in
    c.finding_at.ensures ∙ sym (high-other a.line.now (a.at + 4) (omega arith) (sym c.is_hex_digit.ensures ∙ c.if-is_hex_digit.false))
