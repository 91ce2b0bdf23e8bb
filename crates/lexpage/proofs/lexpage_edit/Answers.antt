-- `lexpage::lexpage_edit` meets its contract.
use Rattle.editing.specs.Answers.{edit_numbers}
use Rattle.lexpage.proofs.lexpage_edit.Goals as goal

pub returns : goal.returns
returns c =
    let d = c.edit in
    let t = c.put_edit.ensures in
    record { answer = edit_numbers d.result; count-is = t.value; reply-is = t.reply_after; post = d.ensures }
