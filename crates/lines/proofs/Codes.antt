-- The codes of the details, by computation over their table.
-- Assumes nothing.
use Prim.Native.Nat.{ℕ, zero, suc, ◌<◌, ◌≤◌}
use mathlib.Core.Path.{◌≡◌, refl, sym, ap}
use mathlib.Core.List.{List, [], ◌∷◌}
use native.Mathlib.Omega.{arith}
use lib.Dec.{eqb, eqb→eq}
use lib.ListN.{length, get_or}
use Rattle.rules.specs.Failure.{Detail, details, detail_of}
use Rattle.laws.proofs.Below as below

abbrev pub codes : List ℕ
codes = 1 ∷ 1 ∷ 2 ∷ 4 ∷ 101 ∷ 1 ∷ 1 ∷ 1 ∷ 1 ∷ 1 ∷ 1 ∷ 1 ∷ 1 ∷ []

pub code_at : (d : ℕ) → d ≤ 12 → get_or codes d 0 ≡ (detail_of d).code
unfolding details detail_of
code_at d h = eqb→eq (get_or codes d 0) (detail_of d).code (below.at (λ k. eqb (get_or codes k 0) (detail_of k).code) 13 tt d (omega arith))

get_d_past : {A : Type 0} (l : List A) (i : ℕ) (d : A) → length l ≤ i → get_or l i d ≡ d
get_d_past [] i d h = refl
get_d_past (x ∷ l) zero d h = absurd (omega arith)
get_d_past (x ∷ l) (suc i) d h = get_d_past l i d (omega arith)

pub code-past : (d : ℕ) → 12 < d → ◌≡◌ {A = ℕ} 0 (detail_of d).code
unfolding details detail_of
code-past zero h = absurd (omega arith)
code-past (suc d) h = ap (λ (x : Detail). x.code) (sym (get_d_past details d _ (omega arith)))
