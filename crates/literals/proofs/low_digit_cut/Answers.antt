-- `literals::low_digit_cut` meets its contract.
use Prim.Native.Nat.{◌+◌}
use mathlib.Core.Path.{sym, ◌∙◌}
use native.Mathlib.Omega.{arith}
use Rattle.literals.proofs.Steps.{low_end, low_digit, low-other}
use Rattle.literals.proofs.low_digit_cut.Goals as goal

pub returns-then-line-at : goal.returns-then-line-at
returns-then-line-at c =
    let a = c.args in
    c.line_ends.ensures ∙ sym (low_end a.line.now (a.at + 5) (omega arith))

pub returns-then-is_hex_digit : goal.returns-then-is_hex_digit
returns-then-is_hex_digit c =
    let a = c.args in
    c.closing_cut.ensures ∙ sym (low_digit a.line.now (a.at + 5) (omega arith) (a.at + 6) (omega arith) (sym c.is_hex_digit.ensures ∙ c.if-is_hex_digit.true))

pub returns : goal.returns
returns c =
    let a = c.args in
    c.finding_at.ensures ∙ sym (low-other a.line.now (a.at + 5) (omega arith) (sym c.is_hex_digit.ensures ∙ c.if-is_hex_digit.false))
