-- `utf8::is_ascii_block` meets its contract. The loop's invariant: the bits so far and the bytes that are left decide.
use Prim.Native.Nat.{◌+◌, ◌-◌, ◌≤◌}
use mathlib.Core.Path.{◌≡◌}
use mathlib.Core.Bool.{◌&&◌}
use lib.Dec.{ltb}
use Rattle.utf8.specs.Passed.{is_ascii}
use Rattle.utf8.proofs.is_ascii_block.Given as goal

abbrev pub invariant-loop-j : goal.invariant-loop-j
invariant-loop-j l = (l.j ≤ 32) × ((ltb l.bits 128 && is_ascii l.text (l.at + l.j) (32 - l.j)) ≡ is_ascii l.text l.at 32)

abbrev pub decreases-loop-j : goal.decreases-loop-j
decreases-loop-j l = 32 - l.j
