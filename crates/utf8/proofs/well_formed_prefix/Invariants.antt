-- `utf8::well_formed_prefix` meets its contract. The loop's invariant: `i` is reached by whole scalars.
use Prim.Native.Nat.{◌-◌}
use lib.ListN.{length}
use Rattle.utf8.specs.Passed.{Reached}
use Rattle.utf8.proofs.well_formed_prefix.Given as goal

abbrev pub invariant-loop-i : goal.invariant-loop-i
invariant-loop-i l = Reached l.text 0 l.i

abbrev pub decreases-loop-i : goal.decreases-loop-i
decreases-loop-i l = length l.text - l.i
