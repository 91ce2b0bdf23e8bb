-- `literals::escape_cut` meets its contract.
use Prim.Native.Nat.{◌+◌}
use mathlib.Core.Path.{sym, ◌∙◌}
use native.Mathlib.Omega.{arith}
use Rattle.literals.proofs.Steps.{among, escape_end, escape-known, escape-hex, escape-other}
use Rattle.literals.proofs.escape_cut.Goals as goal

pub returns-then-line-at : goal.returns-then-line-at
returns-then-line-at c =
    let a = c.args in
    c.line_ends.ensures ∙ sym (escape_end a.line.now (a.at + 3) (omega arith))

pub returns-then-contains : goal.returns-then-contains
returns-then-contains c =
    let a = c.args in
    c.closing_cut.ensures ∙ sym (escape-known a.line.now (a.at + 3) (omega arith) (a.at + 4) (omega arith) (sym (among _ _) ∙ sym c.contains.ensures.value ∙ c.if-contains.true))

pub returns-then-b-eq120 : goal.returns-then-b-eq120
returns-then-b-eq120 c =
    let a = c.args in
    c.high_digit_cut.ensures ∙ sym (escape-hex a.line.now (a.at + 3) (omega arith) (a.at + 4) (omega arith) (sym (among _ _) ∙ sym c.contains.ensures.value ∙ c.if-contains.false) c.if-b-eq120.true)

pub returns : goal.returns
returns c =
    let a = c.args in
    c.finding_at.ensures ∙ sym (escape-other a.line.now (a.at + 3) (omega arith) (sym (among _ _) ∙ sym c.contains.ensures.value ∙ c.if-contains.false) c.if-b-eq120.false)
