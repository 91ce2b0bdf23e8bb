-- `rereading::read_on` meets its contract.
use Rattle.std.proofs.Common.{◌-◌, length}
use Rattle.refusals.specs.Limits.{line_limits_of}
use Rattle.rereading.proofs.Loops.{Loop}
use Rattle.rereading.proofs.read_on.Given as goal

abbrev pub invariant-loop-read : goal.invariant-loop-read
invariant-loop-read g l =
    Loop (line_limits_of l.limits) l.text l.old l.stop l.place l.initial.state g.S.RecordSink.takes l.initial.lines l.initial.tokens l.read l.j l.state l.lines l.tokens

abbrev pub decreases-loop-read : goal.decreases-loop-read
decreases-loop-read g l = length l.text - l.read.bytes
