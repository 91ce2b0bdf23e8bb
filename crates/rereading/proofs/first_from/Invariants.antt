-- `rereading::first_from` meets its contract. So far every record from j up to r starts before the byte.
use Rattle.std.proofs.Common.{ℕ, ◌≤◌, ◌<◌}
use Rattle.records.specs.Words.{start_word}
use Rattle.rereading.proofs.first_from.Given as goal

abbrev pub invariant-loop-r : goal.invariant-loop-r
invariant-loop-r l = (x : ℕ) → l.j ≤ x → x < l.r → start_word l.lines x < l.at
