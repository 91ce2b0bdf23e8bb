-- `lexpage::lexpage_token_text` meets its contract.
use Rattle.lexpage.proofs.lexpage_token_text.Goals as goal

pub returns : goal.returns
returns c =
    rw c.token_part.ensures at c.put_part.ensures
