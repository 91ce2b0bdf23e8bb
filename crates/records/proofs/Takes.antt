-- What a sink takes, one thing behind the other.
-- Assumes nothing.
use Rattle.std.proofs.Common.{ℕ, ◌+◌, ◌≤◌, ◌≡◌, refl, subst, Bool, List, ◌++◌, length}
use Rattle.records.specs.Sinks.{SinkLaws}

module _ {S : Type 0} {fits : S → ℕ → Type 0} {takes : S → S → ℕ → List ℕ → Type 0} {named : Bool} (laws : SinkLaws fits takes named) where
  pub takes_as : {s t : S} {i j : ℕ} {xs ys : List ℕ} → i ≡ j → xs ≡ ys → takes s t i xs → takes s t j ys
  takes_as {s} {t} {j = j} {xs} a e m = subst (takes s t j) e (subst (λ (n : ℕ). takes s t n xs) a m)

  -- words and then others, as one list
  pub then-takes : {s t u : S} {i j : ℕ} {xs ys zs : List ℕ} → takes s t i xs → j ≡ i + length xs → takes t u j ys → xs ++ ys ≡ zs → takes s u i zs
  then-takes {s} {t} {u} {i} {j} {xs} {ys} m a n e = takes_as refl e (laws.joined s t u i xs ys m (takes_as a refl n))

  -- room that is left
  pub fits_after : {s t : S} {i n k : ℕ} {xs : List ℕ} → takes s t i xs → k ≤ n → fits s n → fits t k
  fits_after {s} {t} {i} {n} {k} {xs} m l f = laws.fewer t n k l (laws.keeps s t i xs n m f)
