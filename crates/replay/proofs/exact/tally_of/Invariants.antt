-- As many cases may still come as there is room to count.
use Rattle.std.proofs.Common.{◌+◌, ◌-◌, ◌≤◌, ◌^◌}
use Rattle.replay.proofs.exact.tally_of.Given as goal

abbrev pub invariant-loop-line : goal.invariant-loop-line
invariant-loop-line g l =
    (goal.iterator-loop-line g).can_next l.line-iterator
    × (goal.iterator-loop-line g).is_finite l.line-iterator
    × (l.tally.passed + l.tally.failed + (goal.iterator-loop-line g).remaining l.line-iterator ≤ 2 ^ 64 - 1)
