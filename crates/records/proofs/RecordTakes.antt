-- What a sink of records takes, one thing behind the other.
-- Assumes nothing.
use Rattle.std.proofs.Common.{ℕ, ◌+◌, ◌≤◌, ◌≡◌, refl, sym, subst, arith, Bool, List, ◌++◌, length, Option, Some, None}
use Rattle.records.specs.Sinks.{Fits, RecordSinkLaws}

-- room for many words is room for fewer
pub fits-less : (room : Option ℕ) {i k : ℕ} → k ≤ i → Fits room (Some i) → Fits room (Some k)
fits-less None l f = tt
fits-less (Some n) l f = omega (arith, l, f)

-- a sink without bound has room for any words
pub fits-endless : (room : Option ℕ) (i : Option ℕ) → Fits room None → Fits room i
fits-endless None i f = tt
fits-endless (Some n) i f = absurd f

module _ {S : Type 0} {room : S → Option ℕ} {takes : S → S → ℕ → List ℕ → Type 0} {named : Bool} (laws : RecordSinkLaws room takes named) where
  pub takes_as : {s t : S} {i j : ℕ} {xs ys : List ℕ} → i ≡ j → xs ≡ ys → takes s t i xs → takes s t j ys
  takes_as {s} {t} {j = j} {xs} a e m = subst (takes s t j) e (subst (λ (n : ℕ). takes s t n xs) a m)

  -- words and then others, as one list
  pub then-takes : {s t u : S} {i j : ℕ} {xs ys zs : List ℕ} → takes s t i xs → j ≡ i + length xs → takes t u j ys → xs ++ ys ≡ zs → takes s u i zs
  then-takes {s} {t} {u} {i} {j} {xs} {ys} m a n e = takes_as refl e (laws.taken-behind s t u i xs ys m (takes_as a refl n))

  -- room that is left
  pub fits_after : {s t : S} {i : ℕ} {xs : List ℕ} (k : Option ℕ) → takes s t i xs → Fits (room s) k → Fits (room t) k
  fits_after {s} {t} {i} {xs} k m f = subst (λ (r : Option ℕ). Fits r k) (sym (laws.room-kept s t i xs m)) f
