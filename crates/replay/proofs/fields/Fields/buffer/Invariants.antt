-- The runs so far spelled the units so far.
use Rattle.std.proofs.Common.{map}
use Rattle.replay.specs.Units.{SpellsRuns}
use Rattle.replay.proofs.fields.Fields.buffer.Given as goal

abbrev pub invariant-loop-run : goal.invariant-loop-run
invariant-loop-run g l = SpellsRuns g.T.Unit.spells (map (λ run. run.now) l.yielded) l.units.items
