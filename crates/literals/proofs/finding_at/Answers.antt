-- `literals::finding_at` meets its contract.
use Rattle.rules.specs.Failure.{failure}
use Rattle.rules.specs.Cut.{fails}
use Rattle.literals.proofs.finding_at.Goals as goal

pub returns : goal.returns
returns c =
    let a = c.args in
    λ i. fails (failure a.detail (c.scalar_value.ensures i) a.k (c.scalar_size.ensures i))
