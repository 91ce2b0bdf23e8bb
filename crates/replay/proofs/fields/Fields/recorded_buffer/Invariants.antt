-- The runs so far spelled the units so far, for which there is room.
use Rattle.std.proofs.Common.{◌≤◌, length, map}
use Rattle.replay.specs.Units.{SpellsRuns}
use Rattle.replay.proofs.fields.Fields.recorded_buffer.Given as goal

abbrev pub invariant-loop-run : goal.invariant-loop-run
invariant-loop-run g l = record {
  spelled : SpellsRuns g.T.Recorded.recorded (map (λ run. run.now) l.yielded) l.units.items;
  fits : length l.units.items ≤ l.room;
}
