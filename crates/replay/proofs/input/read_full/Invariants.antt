-- What is read so far is what stands at the front of the buffer.
use Rattle.std.proofs.Common.{◌-◌, ◌≤◌, length, take}
use Rattle.std.specs.Io.KnownBytes.{Consumes}
use Rattle.replay.proofs.input.read_full.Given as goal

abbrev pub invariant-loop-size : goal.invariant-loop-size
invariant-loop-size g l = record {
  in_bounds : l.size ≤ length l.buffer;
  bytes : Consumes (g.R.Read.remaining l.initial.input) (g.R.Read.remaining l.input) (take l.size l.buffer);
}

abbrev pub decreases-loop-size : goal.decreases-loop-size
decreases-loop-size g l = length l.initial.buffer - l.size
