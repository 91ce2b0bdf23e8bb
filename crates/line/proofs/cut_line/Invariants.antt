-- `line::cut_line` meets its contract. So far the cuts before the cursor are done.
use Rattle.std.proofs.Common.{◌-◌, length}
use Rattle.line.proofs.Progress.{Progress}
use Rattle.line.proofs.cut_line.Given as goal

abbrev pub invariant-loop-t : goal.invariant-loop-t
invariant-loop-t g l = Progress g.S.RecordSink.takes l.line l.depth l.place l.initial.tokens l.tokens l.t

abbrev pub decreases-loop-t : goal.decreases-loop-t
decreases-loop-t g l = length l.line - l.t.at
