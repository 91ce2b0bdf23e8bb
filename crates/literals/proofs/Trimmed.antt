-- A byte literal that reads is cut alike from the whole line and from the line without its trailing CRs, since no step of it takes a CR.
-- Assumes nothing.
use Prim.Native.Nat.{ℕ}
use mathlib.Core.Path.{◌≡◌, refl, sym, ap, ◌∙◌}
use mathlib.Core.Bool.{Bool, true, false}
use mathlib.Core.List.{List, [], ◌∷◌, ◌++◌}
use native.Mathlib.Omega.{arith}
use lib.Dec.{ltb, eqb}
use lib.ListN.{length, take}
use borrow.Author.Tests.{eqb-true}
use Rattle.std.specs.Prelude.{if◌then◌else◌}
use Rattle.rules.specs.Lists.{within, ascii, elem, trimmed, trim_end}
use Rattle.rules.specs.Tables.{is_cr, is_digit, is_hex_digit}
use Rattle.rules.specs.Failure.{Failure}
use Rattle.rules.specs.Cut.{Cut, token, fails, closing_cut, low_digit_cut, high_digit_cut, escape_cut, content_cut}

-- a cut is a token, the second the same one where the first is
module _ (k n : ℕ) where
  abbrev IsToken : Cut → Type 0
  IsToken c = c ≡ token k n

  -- a failure is none
  fails_not : {f : Failure} {c : Cut} → IsToken (fails f) → IsToken c
  fails_not e = let z : ◌≡◌ {A = ℕ} 0 1 = cc in absurd (omega arith)

  -- the same test on both sides
  by_test : (b : Bool) {x y x' y' : Cut} → (IsToken x → IsToken x') → (IsToken y → IsToken y') → IsToken (if b then x else y) → IsToken (if b then x' else y')
  by_test true f g e = f e
  by_test false f g e = g e

  -- what stands before a CR
  module _ (q : List ℕ) where
    closing-front : (j : ℕ) (p : List ℕ) → IsToken (closing_cut j (p ++ (13 ∷ q))) → IsToken (closing_cut j p)
    unfolding closing_cut
    closing-front j [] = fails_not
    closing-front j (c ∷ p) = by_test (eqb c 39) (λ e. e) fails_not

    low-front : (p : List ℕ) → IsToken (low_digit_cut (p ++ (13 ∷ q))) → IsToken (low_digit_cut p)
    unfolding low_digit_cut is_hex_digit is_digit
    low-front [] = fails_not
    low-front (c ∷ p) = by_test (is_hex_digit c) (closing-front 6 p) fails_not

    high-front : (p : List ℕ) → IsToken (high_digit_cut (p ++ (13 ∷ q))) → IsToken (high_digit_cut p)
    unfolding high_digit_cut is_hex_digit is_digit
    high-front [] = fails_not
    high-front (c ∷ p) = by_test (within 48 55 c) (low-front p) (by_test (is_hex_digit c) fails_not fails_not)

    escape-front : (p : List ℕ) → IsToken (escape_cut (p ++ (13 ∷ q))) → IsToken (escape_cut p)
    unfolding escape_cut elem
    escape-front [] = fails_not
    escape-front (c ∷ p) = by_test (elem c (ascii "0tnr'\\\"")) (closing-front 4 p) (by_test (eqb c 120) (high-front p) fails_not)

    content-front : (p : List ℕ) → IsToken (content_cut (p ++ (13 ∷ q))) → IsToken (content_cut p)
    unfolding content_cut
    content-front [] = fails_not
    content-front (c ∷ p) =
        by_test (eqb c 39) fails_not
        (by_test (eqb c 92) (escape-front p)
        (by_test (within 0x20 0x7E c) (closing-front 3 p) (by_test (ltb c 0x80) fails_not fails_not)))

-- p is s, or s up to one of its CRs
data Before (s p : List ℕ) : Type 0 where
  whole : p ≡ s → Before s p
  up_to : (q : List ℕ) → s ≡ p ++ (13 ∷ q) → Before s p

onto : (c : ℕ) {s p : List ℕ} → Before s p → Before (c ∷ s) (c ∷ p)
onto c (whole e) = whole (ap (λ (l : List ℕ). c ∷ l) e)
onto c (up_to q e) = up_to q (ap (λ (l : List ℕ). c ∷ l) e)

trim-before : (s : List ℕ) → Before s (trim_end is_cr s)
unfolding trim_end trimmed is_cr
trim-before [] = whole refl
trim-before (c ∷ s) = go (is_cr c) refl (trim_end is_cr s) (trim-before s)
  where
    go : (b : Bool) → is_cr c ≡ b → (p : List ℕ) → Before s p → Before (c ∷ s) (trimmed b c p)
    go b e (y ∷ p) x = onto c x
    go false e [] x = onto c x
    go true e [] x = up_to s (ap (λ (y : ℕ). y ∷ s) (eqb-true c 13 e))

pub token-trimmed : (s : List ℕ) (k n : ℕ) → content_cut s ≡ token k n → content_cut (trim_end is_cr s) ≡ token k n
token-trimmed s k n e = go (trim_end is_cr s) (trim-before s)
  where
    go : (p : List ℕ) → Before s p → content_cut p ≡ token k n
    go p (whole h) = ap content_cut h ∙ e
    go p (up_to q h) = content-front k n q p (ap content_cut (sym h) ∙ e)

-- a line less its trailing CRs is its front
trimmed-front : (b : Bool) (x : ℕ) (xs ys : List ℕ) → ys ≡ take (length ys) xs → trimmed b x ys ≡ take (length (trimmed b x ys)) (x ∷ xs)
unfolding trimmed
trimmed-front true x xs [] e = refl
trimmed-front false x xs [] e = refl
trimmed-front b x xs (y ∷ ys) e = ap (λ (r : List ℕ). x ∷ r) e

pub trim-front : (f : ℕ → Bool) (l : List ℕ) → trim_end f l ≡ take (length (trim_end f l)) l
unfolding trim_end
trim-front f [] = refl
trim-front f (x ∷ l) = trimmed-front (f x) x l (trim_end f l) (trim-front f l)
