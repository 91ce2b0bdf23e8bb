-- A scalar's length, by the leading ones of its first byte and one test for each later byte.
-- Assumes nothing.
use Prim.Native.Nat.{ℕ, zero, suc, ◌+◌, ◌≤◌, ◌<◌, zero-le, suc-le-suc}
use mathlib.Core.Path.{◌≡◌, refl, sym, ◌∙◌}
use mathlib.Core.Bool.{Bool, true, false, ◌&&◌, not, and-true}
use mathlib.Core.List.{List, [], ◌∷◌}
use mathlib.Core.Option.{Option, none, some}
use native.Mathlib.Omega.{arith}
use lib.Dec.{leb}
use lib.ListN.{length, get_or, drop, drop_of_length-le, length-drop}
use lib.Seq.{drop-cons, drop-drop}
use borrow.Author.Tests.{leb-true, leb-false, le-leb, lt-leb, not-true, not-false}
use Rattle.laws.proofs.Below.{entry}
use Rattle.std.specs.Prelude.{if◌then◌else◌}
use Rattle.rules.specs.Lists.{within, run}
use Rattle.rules.specs.Utf8.{Range, ◌to◌, continuation, table, following, in_ranges, size_by, scalar_size, bits_of, leading_ones}
use Rattle.rules.proofs.Utf8Laws.{size-le}
use Rattle.utf8.specs.Second.{lowest, highest}

-- what follows a first byte: a range, and more of them, unless that range is empty
ranged : Range → List Range → Option (List Range)
ranged r rs = if leb r.lo r.hi then some (r ∷ rs) else none

-- by the first byte's leading ones, and the second byte's range
by_ones : ℕ → Range → Option (List Range)
by_ones zero r = some []
by_ones (suc zero) r = none
by_ones (suc (suc zero)) r = ranged r []
by_ones (suc (suc (suc zero))) r = ranged r (continuation ∷ [])
by_ones (suc (suc (suc (suc zero)))) r = ranged r (continuation ∷ continuation ∷ [])
by_ones (suc (suc (suc (suc (suc n))))) r = none

abbrev second : ℕ → Range
second b = lowest b to highest b

-- Table 3-7, by one test over the 256 bytes
table-by : (b : ℕ) → b < 256 → following table b ≡ by_ones (leading_ones b) (second b)
unfolding following table by_ones ranged leading_ones bits_of run lowest highest
table-by b h = sym (entry (following table) 256 b none h) ∙ entry (λ b. by_ones (leading_ones b) (second b)) 256 b none h

-- no byte is in an empty range
outside : (lo hi b : ℕ) → leb lo hi ≡ false → within lo hi b ≡ false
outside lo hi b h = go (leb lo b) refl
  where
    go : (x : Bool) → leb lo b ≡ x → (x && leb b hi) ≡ false
    go true e = lt-leb b hi (omega (arith, leb-true lo b e, leb-false lo hi h))
    go false e = refl

none_in : (r : Range) (rs : List Range) (s : List ℕ) → leb r.lo r.hi ≡ false → in_ranges (r ∷ rs) s ≡ false
unfolding in_ranges
none_in r rs [] h = refl
none_in r rs (b ∷ s) h = rw (outside r.lo r.hi b h)

size-ranged : (r : Range) (rs : List Range) (s : List ℕ) → size_by (ranged r rs) s ≡ (if in_ranges (r ∷ rs) s then suc (suc (length rs)) else 0)
unfolding ranged size_by
size-ranged r rs s = go (leb r.lo r.hi) refl
  where
    go : (x : Bool) → leb r.lo r.hi ≡ x → size_by (if x then some (r ∷ rs) else none) s ≡ (if in_ranges (r ∷ rs) s then suc (suc (length rs)) else 0)
    go true e = refl
    go false e = rw (none_in r rs s e)

-- one byte after the other
in_cons : (r : Range) (rs : List Range) (s : List ℕ) → in_ranges (r ∷ rs) s ≡ (in_ranges (r ∷ []) s && in_ranges rs (drop 1 s))
unfolding in_ranges
in_cons r rs [] = refl
in_cons r rs (b ∷ s) = go (within r.lo r.hi b)
  where
    go : (x : Bool) → (x && in_ranges rs s) ≡ ((x && true) && in_ranges rs s)
    go true = refl
    go false = refl

-- A byte in a range, at an index.

module _ (t : List ℕ) (i lo hi : ℕ) where
  pub in_past : length t ≤ i → in_ranges (lo to hi ∷ []) (drop i t) ≡ false
  unfolding in_ranges
  in_past h = rw (drop_of_length-le t h)

  pub in_below : i < length t → get_or t i 0 < lo → in_ranges (lo to hi ∷ []) (drop i t) ≡ false
  unfolding in_ranges
  in_below h k = rw (drop-cons t i 0 h, lt-leb lo (get_or t i 0) k)

  pub in_from : i < length t → lo ≤ get_or t i 0 → in_ranges (lo to hi ∷ []) (drop i t) ≡ leb (get_or t i 0) hi
  unfolding in_ranges
  in_from h k = rw (drop-cons t i 0 h, le-leb lo (get_or t i 0) k) (and-true (leb (get_or t i 0) hi))

-- the length by the first byte's leading ones, and whether the second, third and fourth byte are in their ranges
pub size_of : ℕ → Bool → Bool → Bool → ℕ
size_of zero p q r = 1
size_of (suc zero) p q r = 0
size_of (suc (suc zero)) p q r = if p then 2 else 0
size_of (suc (suc (suc zero))) p q r = if p && q then 3 else 0
size_of (suc (suc (suc (suc zero)))) p q r = if p && (q && r) then 4 else 0
size_of (suc (suc (suc (suc (suc n))))) p q r = 0

size-by : (n : ℕ) (r : Range) (s : List ℕ)
    → size_by (by_ones n r) s ≡ size_of n (in_ranges (r ∷ []) s) (in_ranges (continuation ∷ []) (drop 1 s)) (in_ranges (continuation ∷ []) (drop 2 s))
unfolding by_ones size_by size_of in_ranges
size-by zero r s = refl
size-by (suc zero) r s = refl
size-by (suc (suc zero)) r s = size-ranged r [] s
size-by (suc (suc (suc zero))) r s = size-ranged r (continuation ∷ []) s ∙ rw (in_cons r (continuation ∷ []) s)
size-by (suc (suc (suc (suc zero)))) r s =
    size-ranged r (continuation ∷ continuation ∷ []) s
    ∙ rw (in_cons r (continuation ∷ continuation ∷ []) s, in_cons continuation (continuation ∷ []) (drop 1 s), drop-drop 1 1 s)
size-by (suc (suc (suc (suc (suc n))))) r s = refl

-- no scalar: too many leading ones, a bad second byte, a bad third byte
no_ones : (n : ℕ) (p q r : Bool) → (n ≡ 0 → ⊥) → (n ≡ 2 → ⊥) → (n ≡ 3 → ⊥) → (n ≡ 4 → ⊥) → size_of n p q r ≡ 0
unfolding size_of
no_ones zero p q r a b c d = absurd (a refl)
no_ones (suc zero) p q r a b c d = refl
no_ones (suc (suc zero)) p q r a b c d = absurd (b refl)
no_ones (suc (suc (suc zero))) p q r a b c d = absurd (c refl)
no_ones (suc (suc (suc (suc zero)))) p q r a b c d = absurd (d refl)
no_ones (suc (suc (suc (suc (suc n))))) p q r a b c d = refl

no_second : (n : ℕ) (q r : Bool) → 0 < n → size_of n false q r ≡ 0
unfolding size_of
no_second zero q r h = absurd (omega arith)
no_second (suc zero) q r h = refl
no_second (suc (suc zero)) q r h = refl
no_second (suc (suc (suc zero))) q r h = refl
no_second (suc (suc (suc (suc zero)))) q r h = refl
no_second (suc (suc (suc (suc (suc n))))) q r h = refl

no_third : (n : ℕ) (r : Bool) → 2 < n → size_of n true false r ≡ 0
unfolding size_of
no_third zero r h = absurd (omega arith)
no_third (suc zero) r h = absurd (omega arith)
no_third (suc (suc zero)) r h = absurd (omega arith)
no_third (suc (suc (suc zero))) r h = refl
no_third (suc (suc (suc (suc zero)))) r h = refl
no_third (suc (suc (suc (suc (suc n))))) r h = refl

-- the length at an index, by the leading ones there; and by a test of the second byte
pub record Sized (t : List ℕ) (i n : ℕ) (p : Bool) : Type 0 where
  pub size : scalar_size (drop i t) ≡ size_of n p (in_ranges (continuation ∷ []) (drop (i + 2) t)) (in_ranges (continuation ∷ []) (drop (i + 3) t))

abbrev pub First : (t : List ℕ) (i n : ℕ) → Type 0
First t i n = Sized t i n (in_ranges (second (get_or t i 0) ∷ []) (drop (i + 1) t))

pub sized : (t : List ℕ) (i n lo hi : ℕ) (p : Bool) → i < length t → get_or t i 0 < 256
    → n ≡ leading_ones (get_or t i 0) → lo ≡ lowest (get_or t i 0) → hi ≡ highest (get_or t i 0)
    → p ≡ in_ranges (lo to hi ∷ []) (drop (i + 1) t) → Sized t i n p
unfolding scalar_size
sized t i n lo hi p h k en el eh ep =
    let b = get_or t i 0 in
    let e1 : suc i ≡ i + 1 = omega arith in
    let e2 : suc i + 1 ≡ i + 2 = omega arith in
    let e3 : suc i + 2 ≡ i + 3 = omega arith in
    record {
      size =
          rw (ep, el, eh, en, drop-cons t i 0 h, table-by b k)
          (size-by (leading_ones b) (second b) (drop (suc i) t) ∙ rw (drop-drop 1 (suc i) t, drop-drop 2 (suc i) t, e2, e3, e1));
    }

pub size-past : (t : List ℕ) (i : ℕ) → length t ≤ i → scalar_size (drop i t) ≡ 0
unfolding scalar_size
size-past t i h = rw (drop_of_length-le t h)

-- One law for each return of a scan.

module _ {t : List ℕ} {i n : ℕ} {p : Bool} (s : Sized t i n p) where
  pub size-ascii : n ≡ 0 → 1 ≡ scalar_size (drop i t)
  unfolding size_of
  size-ascii h = sym (s.size ∙ rw h)

  pub bad_first : (n ≡ 0 → ⊥) → (n ≡ 2 → ⊥) → (n ≡ 3 → ⊥) → (n ≡ 4 → ⊥) → 0 ≡ scalar_size (drop i t)
  bad_first a b c d = sym (s.size ∙ no_ones n _ _ _ a b c d)

  pub bad_second : 0 < n → not p ≡ true → 0 ≡ scalar_size (drop i t)
  bad_second h e = sym (s.size ∙ rw (not-true p e) (no_second n _ _ h))

  module _ (e : not p ≡ false) where
    pub size-two : n ≡ 2 → 2 ≡ scalar_size (drop i t)
    unfolding size_of
    size-two h = sym (s.size ∙ rw (h, not-false p e))

    module _ {q : Bool} (eq : q ≡ in_ranges (continuation ∷ []) (drop (i + 2) t)) where
      pub bad_third : 2 < n → not q ≡ true → 0 ≡ scalar_size (drop i t)
      bad_third h f = sym (s.size ∙ rw (← eq, not-false p e, not-true q f) (no_third n _ h))

      module _ (f : not q ≡ false) where
        pub size_three : n ≡ 3 → 3 ≡ scalar_size (drop i t)
        unfolding size_of
        size_three h = sym (s.size ∙ rw (← eq, h, not-false p e, not-false q f))

        module _ {r : Bool} (er : r ≡ in_ranges (continuation ∷ []) (drop (i + 3) t)) (h : n ≡ 4) where
          pub bad_fourth : not r ≡ true → 0 ≡ scalar_size (drop i t)
          unfolding size_of
          bad_fourth g = sym (s.size ∙ rw (← eq, ← er, h, not-false p e, not-false q f, not-true r g))

          pub size_four : not r ≡ false → 4 ≡ scalar_size (drop i t)
          unfolding size_of
          size_four g = sym (s.size ∙ rw (← eq, ← er, h, not-false p e, not-false q f, not-false r g))

-- A scalar's bytes are in the text.

size_length : (s : List ℕ) → scalar_size s ≤ length s
unfolding scalar_size
size_length [] = zero-le
size_length (b ∷ s) = go (scalar_size (b ∷ s)) refl
  where
    go : (m : ℕ) → scalar_size (b ∷ s) ≡ m → m ≤ suc (length s)
    go zero e = zero-le
    go (suc n) e = suc-le-suc (size-le b s n e)

pub size_in : (t : List ℕ) (i m : ℕ) → i ≤ length t → m ≡ scalar_size (drop i t) → i + m ≤ length t
size_in t i m h e = omega (arith, size_length (drop i t), length-drop i t)
