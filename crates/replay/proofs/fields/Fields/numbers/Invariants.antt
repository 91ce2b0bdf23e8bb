-- The fields so far spelled the numbers so far.
use Rattle.std.proofs.Common.{◌≡◌, length}
use Rattle.replay.specs.Fields.{left, SpellsEach, SpellsNumber}
use Rattle.replay.proofs.fields.Fields.numbers.Given as goal

abbrev pub invariant-loop : goal.invariant-loop
invariant-loop l = record {
  count : length l.numbers.items ≡ l.counter;
  spelled : SpellsEach SpellsNumber (left l.initial.self) l.numbers.items (left l.self);
}
