-- `moving::distance_of` meets its contract.
use Rattle.std.proofs.Common.{arith}
use Rattle.moving.specs.Moved.{distance}
use Rattle.moving.proofs.distance_of.Goals as goal

pub returns : goal.returns
unfolding distance
returns c = omega arith
