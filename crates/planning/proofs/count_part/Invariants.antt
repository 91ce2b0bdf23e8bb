-- `planning::count_part` meets its contract. So far the LFs of the first bytes are counted.
use Rattle.std.proofs.Common.{◌≡◌, take}
use Rattle.rules.specs.Reading.{count_lf}
use Rattle.planning.proofs.count_part.Given as goal

abbrev pub invariant-loop-i : goal.invariant-loop-i
invariant-loop-i l = l.n ≡ count_lf (take l.i l.part)
