-- `checking::lines_agree` meets its contract.
use Rattle.std.proofs.Common.{◌-◌, length}
use Rattle.refusals.specs.Limits.{line_limits_of}
use Rattle.checking.proofs.Lines.{HeldTo}
use Rattle.checking.proofs.lines_agree.Given as goal

abbrev pub invariant-loop-place : goal.invariant-loop-place
invariant-loop-place l = HeldTo (line_limits_of l.limits) l.text l.initial.line_sink l.initial.token_sink l.place l.state l.line_sink l.token_sink

abbrev pub decreases-loop-place : goal.decreases-loop-place
decreases-loop-place l = length l.text - l.place.start
