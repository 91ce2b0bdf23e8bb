-- `lexpage::lexpage_check` meets its contract.
use Rattle.lexpage.proofs.lexpage_check.Goals as goal

pub returns : goal.returns
returns c =
    rw c.check.ensures at c.put_check.ensures
