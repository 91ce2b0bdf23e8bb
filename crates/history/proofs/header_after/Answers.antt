-- `history::header_after` meets its contract.
use mathlib.Core.Path.{sym, ap, ◌∙◌}
use Rattle.std.specs.Prelude.{Result}
use Rattle.rules.specs.Page.{header_after}
use Rattle.refusals.specs.declared.Refusal.{Refusal}
use Rattle.header.specs.Pages.{header_of}
use Rattle.editing.specs.Answers.{edit_numbers}
use Rattle.editing.specs.declared.Edited.{Edited}
use Rattle.history.proofs.Lists.{head-kept}
use Rattle.history.proofs.header_after.Goals as goal

pub returns-in-Ok : goal.returns-in-Ok
unfolding header_after
returns-in-Ok c = ap (λ (r : Result Edited Refusal). header_after (header_of c.args.head) (edit_numbers r)) (sym c.in-Ok.is)

pub returns-in-Err : goal.returns-in-Err
returns-in-Err c =
    let h = header_of c.args.head in
    head-kept h c.in-Err.field-0 ∙ ap (λ (r : Result Edited Refusal). header_after h (edit_numbers r)) (sym c.in-Err.is)
