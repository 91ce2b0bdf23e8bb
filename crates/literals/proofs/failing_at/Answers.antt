-- `literals::failing_at` meets its contract.
use mathlib.Core.Path.{ap}
use Rattle.rules.specs.Failure.{failure}
use Rattle.rules.specs.Cut.{fails}
use Rattle.literals.proofs.failing_at.Goals as goal

pub returns : goal.returns
returns c =
    let a = c.args in
    ap (λ n. fails (failure a.detail 0 a.k n)) c.scalar_size.ensures
