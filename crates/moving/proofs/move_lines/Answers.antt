-- `moving::move_lines` meets its contract.
use Rattle.moving.specs.Moved.{moved_lines}
use Rattle.moving.proofs.move_lines.Goals as goal

pub returns : goal.returns
unfolding moved_lines
returns c = rw (c.distance_of.ensures, c.distance_of-2.ensures) at c.move_records.ensures
