-- `literals::closing_cut` meets its contract.
use Prim.Native.Nat.{◌+◌}
use mathlib.Core.Path.{sym, ap, ◌∙◌}
use native.Mathlib.Omega.{arith}
use Rattle.rules.specs.Kinds.{byte_lit}
use Rattle.rules.specs.Cut.{token}
use Rattle.literals.proofs.Steps.{closing_end, closing_quote, closing-other}
use Rattle.literals.proofs.closing_cut.Goals as goal

pub returns-then-line-at : goal.returns-then-line-at
returns-then-line-at c =
    let a = c.args in
    c.line_ends.ensures ∙ sym (closing_end a.line.now (a.at + a.k) (omega arith) a.k)

pub returns-then-line-at-eq39 : goal.returns-then-line-at-eq39
returns-then-line-at-eq39 c =
    let a = c.args in
    ap (token byte_lit) (omega arith) ∙ sym (closing_quote a.line.now (a.at + a.k) (omega arith) a.k c.if-line-at-eq39.true)

pub returns : goal.returns
returns c =
    let a = c.args in
    c.finding_at.ensures ∙ sym (closing-other a.line.now (a.at + a.k) (omega arith) a.k c.if-line-at-eq39.false)
