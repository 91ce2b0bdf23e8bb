-- `lexpage::lexpage_number_parts` meets its contract.
use Rattle.lexpage.proofs.lexpage_number_parts.Goals as goal

pub returns : goal.returns
returns c =
    rw c.number_parts.ensures at c.put_parts.ensures
