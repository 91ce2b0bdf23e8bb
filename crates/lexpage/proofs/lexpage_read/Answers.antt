-- `lexpage::lexpage_read` meets its contract.
use Rattle.lexpage.proofs.lexpage_read.Goals as goal

pub returns : goal.returns
returns c =
    let d = c.read.ensures in
    let t = rw d.result_value at c.put_read.ensures in
    record { value = t.value; reply_after = t.reply_after; lines_after = d.lines_after; tokens_after = d.tokens_after }
