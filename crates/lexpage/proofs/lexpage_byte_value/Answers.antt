-- `lexpage::lexpage_byte_value` meets its contract.
use Rattle.lexpage.proofs.lexpage_byte_value.Goals as goal

pub returns : goal.returns
returns c =
    rw c.ascii_byte_literal_value.ensures at c.put_value.ensures
