-- Which of some bytes pass a test, as the bits of a number.
-- Assumes nothing.
use Rattle.std.specs.Prelude.{ℕ, zero, suc, ◌+◌, ◌*◌, Bool, List, [], ◌∷◌}
use Rattle.rules.specs.Lists.{bit}

-- of the first n elements: bit j is set where element j passes the test
unfoldable pub mask_of : (ℕ → Bool) → (n : ℕ) → List ℕ → ℕ
mask_of f zero s = 0
mask_of f (suc n) [] = 0
mask_of f (suc n) (x ∷ s) = bit (f x) + 2 * mask_of f n s
