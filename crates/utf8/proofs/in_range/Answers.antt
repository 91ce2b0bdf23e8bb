-- `utf8::in_range` meets its contract.
use mathlib.Core.Path.{sym, ◌∙◌}
use mathlib.Core.Bool.{false≢true}
use borrow.Author.Tests.{leb-true, leb-false, le-ltb}
use Rattle.utf8.proofs.SizeLaws.{in_past, in_below, in_from}
use Rattle.utf8.proofs.in_range.Goals.{then-at-text, else-at-text}
use Rattle.utf8.proofs.in_range.Goals as goal

pub returns-then-lo-text : goal.returns-then-lo-text
returns-then-lo-text c =
    elim c.if-at-text.branch [
      | then-at-text w ↦ sym (in_from _ _ _ _ w.if-at-text.true (leb-true _ _ (sym w.value-is ∙ c.if-lo-text.true)))
      | else-at-text w ↦ absurd (false≢true (sym (le-ltb _ _ w.if-at-text.false) ∙ sym w.value-is ∙ c.if-lo-text.true))
    ]

pub returns-else-lo-text : goal.returns-else-lo-text
returns-else-lo-text c =
    c.if-lo-text.false
    ∙ sym (elim c.if-at-text.branch [
      | then-at-text w ↦ in_below _ _ _ _ w.if-at-text.true (leb-false _ _ (sym w.value-is ∙ c.if-lo-text.false))
      | else-at-text w ↦ in_past _ _ _ _ w.if-at-text.false
    ])
