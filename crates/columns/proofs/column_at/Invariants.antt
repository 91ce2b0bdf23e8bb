-- `columns::column_at` meets its contract. The loop's invariant: `i` is reached by whole scalars, and `count` of them stand before it in its line.
use Prim.Native.Nat.{◌-◌}
use lib.ListN.{length}
use Rattle.columns.proofs.Walks.{Walked}
use Rattle.columns.proofs.column_at.Given as goal

abbrev pub invariant-loop-i : goal.invariant-loop-i
invariant-loop-i l = Walked l.text l.at l.i l.count

abbrev pub decreases-loop-i : goal.decreases-loop-i
decreases-loop-i l = length l.text - l.i
