-- `moving::move_tokens` meets its contract.
use Rattle.moving.specs.Moved.{moved_tokens}
use Rattle.moving.proofs.move_tokens.Goals as goal

pub returns : goal.returns
unfolding moved_tokens
returns c = rw (c.distance_of.ensures, c.distance_of-2.ensures) at c.move_records.ensures
