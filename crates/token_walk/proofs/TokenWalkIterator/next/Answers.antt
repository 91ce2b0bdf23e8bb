-- `token_walk::TokenWalk::next` meets its contract.
use Rattle.token_walk.proofs.Steps.{nearer}
use Rattle.token_walk.proofs.TokenWalkIterator.next.Goals as goal

pub returns-clause-goes : goal.returns-clause-goes
returns-clause-goes c = nearer c.args.self.now c.step_from-next.result.0 c.step_from-next.result.1 c.step_from-next.ensures
