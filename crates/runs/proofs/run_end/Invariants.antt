-- `runs::run_end` meets its contract. What is left of the line, from i on, ends its run where the whole does.
use Prim.Native.Nat.{◌+◌, ◌-◌, ◌≤◌}
use mathlib.Core.Path.{◌≡◌}
use lib.ListN.{length, drop}
use Rattle.rules.specs.Lists.{run}
use Rattle.tables.specs.Bytes.{reaches}
use Rattle.tables.specs.Named.{run_number}
use Rattle.runs.proofs.run_end.Given as goal

abbrev pub invariant-loop-i : goal.invariant-loop-i
invariant-loop-i l =
    let f = reaches (run_number l.which) in
    (l.i ≤ length l.line) × (l.i + run f (drop l.i l.line) ≡ l.at + run f (drop l.at l.line))

abbrev pub decreases-loop-i : goal.decreases-loop-i
decreases-loop-i l = length l.line - l.i
