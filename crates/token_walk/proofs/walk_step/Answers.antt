-- `token_walk::walk_step` meets its contract.
use native.Mathlib.Omega.{arith}
use Rattle.token_walk.proofs.Steps.{done, goes_on_lem}
use Rattle.token_walk.proofs.walk_step.Goals as goal

pub returns-then-tokens-next : goal.returns-then-tokens-next
returns-then-tokens-next c = done _ _ (omega arith)

pub returns : goal.returns
returns c =
    let a = c.args in
    goes_on_lem a.tokens.now a.next (omega arith)
