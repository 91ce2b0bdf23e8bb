-- The bytes so far are spelled by the text in front of what is left.
use Rattle.std.proofs.Common.{◌≡◌, List, ℕ, ◌++◌, length}
use Rattle.std.specs.List.{flat_map}
use Rattle.replay.specs.Units.{hex_pair}
use Rattle.replay.proofs.units.U8Unit.put.Given as goal

abbrev pub invariant-loop-rest : goal.invariant-loop-rest
invariant-loop-rest l =
    (bytes : List ℕ) × (l.bytes.items ≡ l.initial.bytes.items ++ bytes) × (l.text ≡ flat_map hex_pair bytes ++ l.rest)

abbrev pub decreases-loop-rest : goal.decreases-loop-rest
decreases-loop-rest l = length l.rest
