-- `planning::count_lf` meets its contract. So far the LFs of the parts behind are counted.
use Rattle.std.proofs.Common.{◌≡◌, ◌+◌, take}
use Rattle.rules.specs.Reading.{count_lf}
use Rattle.planning.proofs.count_lf.Given as goal

abbrev pub invariant-loop-part : goal.invariant-loop-part
invariant-loop-part l = (l.part-iterator.size ≡ 128) × (l.n + count_lf l.part-iterator.rest.now ≡ count_lf (take l.a l.text))
