-- `State::initial` meets its contract.
use Rattle.std.proofs.Common.{refl, arith}
use Rattle.rules.specs.Records.{packed}
use Rattle.records.proofs.state.State.initial.Goals as goal

pub invariant_of-result : goal.invariant_of-result
unfolding packed
invariant_of-result c = (omega arith, refl)
