-- Where a run ends, by its elements.
-- Assumes nothing.
use Prim.Native.Nat.{ℕ, zero, suc, ◌<◌}
use mathlib.Core.Path.{◌≡◌, refl, ap, ◌∙◌}
use mathlib.Core.Bool.{Bool, true, false}
use mathlib.Core.List.{List, [], ◌∷◌}
use native.Mathlib.Omega.{arith}
use lib.ListN.{length, get_or}
use Rattle.rules.specs.Lists.{run}
use Rattle.rules.proofs.ListLaws.{run_true, run_false}

-- the elements before k pass, the one at k does not
pub run-at : (f : ℕ → Bool) (s : List ℕ) (k : ℕ) → k < length s → ((j : ℕ) → j < k → f (get_or s j 0) ≡ true) → f (get_or s k 0) ≡ false → run f s ≡ k
run-at f [] k h before at = absurd (omega arith)
run-at f (x ∷ s) zero h before at = run_false f x s at
run-at f (x ∷ s) (suc k) h before at =
    run_true f x s (before 0 (omega arith)) ∙ ap suc (run-at f s k (omega arith) (λ j i. before (suc j) (omega arith)) at)

-- all pass
pub run-all : (f : ℕ → Bool) (s : List ℕ) → ((j : ℕ) → j < length s → f (get_or s j 0) ≡ true) → run f s ≡ length s
unfolding run
run-all f [] all = refl
run-all f (x ∷ s) all = run_true f x s (all 0 (omega arith)) ∙ ap suc (run-all f s (λ j i. all (suc j) (omega arith)))
