-- `lexpage::lexpage_fresh` meets its contract.
use Rattle.lexpage.proofs.lexpage_fresh.Goals as goal

pub returns : goal.returns
returns c =
    let d = c.fresh.ensures in
    let t = rw d.result_value at c.put_fresh.ensures in
    record { value = t.value; reply_after = t.reply_after; lines_after = d.lines_after }
