-- `indent::ends_at` meets its contract.
use mathlib.Core.Path.{sym, ◌∙◌}
use mathlib.Core.Bool.{false≢true}
use native.Mathlib.Omega.{arith}
use borrow.Author.Tests.{eqb-true, eqb-false, eq-eqb}
use Rattle.indent.proofs.Indents.{ends-empty, ends_hash, ends_slashes}
use Rattle.indent.proofs.ends_at.Goals.{then-at-line, else-at-line}
use Rattle.indent.proofs.ends_at.Goals as goal

pub returns-then-line-at-eq35 : goal.returns-then-line-at-eq35
returns-then-line-at-eq35 c =
    let l = c.args.line.now in
    let found = c.if-line-at-eq35.true in
    elim c.if-at-line.branch [
      | then-at-line w ↦ found ∙ sym (ends-empty l c.args.at w.if-at-line.true)
      | else-at-line w ↦ found ∙ sym (ends_hash l c.args.at (omega (arith, w.if-at-line.false)) (eqb-true _ _ (sym w.value-is ∙ found)))
    ]

pub returns-else-line-at-eq35 : goal.returns-else-line-at-eq35
returns-else-line-at-eq35 c =
    let l = c.args.line.now in
    let none = c.if-line-at-eq35.false in
    elim c.if-at-line.branch [
      | then-at-line w ↦ absurd (false≢true (sym none ∙ w.value-is ∙ eq-eqb _ _ w.if-at-line.true))
      | else-at-line w ↦ c.begins_at.ensures ∙ sym (ends_slashes l c.args.at (omega (arith, w.if-at-line.false)) (eqb-false _ _ (sym w.value-is ∙ none)))
    ]
