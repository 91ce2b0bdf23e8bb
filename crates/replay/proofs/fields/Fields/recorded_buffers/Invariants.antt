-- The fields so far spelled the buffers so far.
use Rattle.std.proofs.Common.{◌≡◌, length}
use Rattle.replay.specs.Fields.{left, SpellsEach}
use Rattle.replay.specs.Units.{RecordsBuffer}
use Rattle.replay.proofs.fields.Fields.recorded_buffers.Given as goal

abbrev pub invariant-loop : goal.invariant-loop
invariant-loop g l = record {
  count : length l.buffers.items ≡ l.counter;
  spelled : SpellsEach (λ field units. RecordsBuffer g.T.Recorded.recorded field units.items) (left l.initial.self) l.buffers.items (left l.self);
}
