-- `indent::blank_end` meets its contract. What is left gives the whole run.
use Prim.Native.Nat.{◌+◌, ◌≤◌}
use mathlib.Core.Path.{◌≡◌}
use lib.ListN.{length, drop}
use Rattle.rules.specs.Lists.{run}
use Rattle.rules.specs.Tables.{is_blank}
use Rattle.indent.proofs.blank_end.Given as goal

abbrev pub invariant-loop-i : goal.invariant-loop-i
invariant-loop-i l = (l.i ≤ length l.line) × (l.i + run is_blank (drop l.i l.line) ≡ run is_blank l.line)
