-- What the view of a state keeps: the number of its open levels, so that the view gives the state back.
-- Assumes nothing.
use Rattle.std.proofs.Common.{ℕ, ◌≡◌, ◌≤◌, ◌∙◌, ap, List, length, take, arith}
use Rattle.std.proofs.Math.Seq.{length-take-le}
use Rattle.rules.specs.Limits.{max_levels}
use Rattle.rules.specs.Records.{packed}
use Rattle.rules.proofs.RecordLaws.{length_packed}

pub levels-kept : (n : ℕ) (ws : List ℕ) → n ≤ max_levels → ws ≡ packed (take n ws) → length (take n ws) ≡ n
levels-kept n ws few held = length-take-le n ws (omega (arith, few, ap length held ∙ length_packed (take n ws)))
