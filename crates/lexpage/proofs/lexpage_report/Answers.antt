-- `lexpage::lexpage_report` meets its contract.
use Rattle.lexpage.proofs.lexpage_report.Goals as goal

pub returns : goal.returns
returns c =
    let d = c.report.ensures in
    let t = rw d.result_value at c.put_number.ensures in
    record { value = t.value; reply_after = t.reply_after; out_after = d.out_after }
