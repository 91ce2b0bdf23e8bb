-- The fields so far spelled the buffers so far.
use Rattle.std.proofs.Common.{◌≡◌, length}
use Rattle.replay.specs.Fields.{left, SpellsEach}
use Rattle.replay.specs.Units.{SpellsBuffer}
use Rattle.replay.proofs.fields.Fields.buffers.Given as goal

abbrev pub invariant-loop : goal.invariant-loop
invariant-loop g l = record {
  count : length l.buffers.items ≡ l.counter;
  spelled : SpellsEach (λ field units. SpellsBuffer g.T.Unit.spells field units.items) (left l.initial.self) l.buffers.items (left l.self);
}
