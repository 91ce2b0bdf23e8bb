-- `lexpage::lexpage_walk_step` meets its contract.
use Rattle.lexpage.proofs.lexpage_walk_step.Goals as goal

pub returns : goal.returns
returns c =
    rw c.walk_step.ensures at c.put_step.ensures
