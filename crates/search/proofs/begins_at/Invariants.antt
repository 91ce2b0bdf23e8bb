-- `search::begins_at` meets its contract. What is left to compare decides.
use Prim.Native.Nat.{◌+◌, ◌≤◌}
use mathlib.Core.Path.{◌≡◌}
use lib.ListN.{length, drop}
use Rattle.rules.specs.Lists.{begins}
use Rattle.search.proofs.begins_at.Given as goal

abbrev pub invariant-loop-j : goal.invariant-loop-j
invariant-loop-j l = (l.j ≤ length l.front) × (l.at + length l.front ≤ length l.line) × (begins (drop l.j l.front) (drop (l.at + l.j) l.line) ≡ begins l.front (drop l.at l.line))
