-- What a list begins with at an index: one number at a time, part by part, and as a comparison.
-- Assumes nothing.
use Prim.Native.Nat.{ℕ, suc, ◌+◌, ◌≤◌, ◌<◌}
use mathlib.Core.Path.{◌≡◌, refl, sym, ap, ◌∙◌}
use mathlib.Core.Bool.{Bool, true, false, ◌&&◌, and_assoc}
use mathlib.Core.List.{List, [], ◌∷◌, ◌++◌}
use native.Mathlib.Omega.{arith}
use native.Mathlib.Numerals.{add-one}
use lib.Dec.{eqb}
use lib.ListN.{length, get_or, take, drop, drop_of_length-le}
use lib.Seq.{drop-cons, drop-drop}
use borrow.Author.Tests.{eq-eqb, ne_eqb, eqb-true, eqb-false}
use Rattle.rules.specs.Lists.{begins, same}
use Rattle.rules.proofs.ListLaws.{begins-le}

module _ (p s : List ℕ) (at j : ℕ) (hp : j < length p) (hs : at + j < length s) where
  step : begins (drop j p) (drop (at + j) s) ≡ (eqb (get_or p j 0) (get_or s (at + j) 0) && begins (drop (j + 1) p) (drop (at + (j + 1)) s))
  unfolding begins
  step =
      let e : at + (j + 1) ≡ suc (at + j) = omega arith in
      rw (drop-cons p j 0 hp, drop-cons s (at + j) 0 hs, e, add-one)

  -- a number that agrees, and one that does not
  pub begins-more : get_or s (at + j) 0 ≡ get_or p j 0 → begins (drop j p) (drop (at + j) s) ≡ begins (drop (j + 1) p) (drop (at + (j + 1)) s)
  begins-more e = step ∙ rw (eq-eqb (get_or p j 0) (get_or s (at + j) 0) (sym e))

  pub begins-other : (get_or s (at + j) 0 ≡ get_or p j 0 → ⊥) → begins (drop j p) (drop (at + j) s) ≡ false
  begins-other h = step ∙ rw (ne_eqb (get_or p j 0) (get_or s (at + j) 0) (λ e. h (sym e)))

pub begins-all : (p s : List ℕ) (j : ℕ) → length p ≤ j → begins (drop j p) s ≡ true
unfolding begins
begins-all p s j h = rw (drop_of_length-le p h)

-- a list that is too short
pub begins-short : (p s : List ℕ) → length s < length p → begins p s ≡ false
begins-short p s h = go (begins p s) refl
  where
    go : (b : Bool) → begins p s ≡ b → b ≡ false
    go true e = absurd (omega (arith, begins-le p s e))
    go false e = refl

begins_append : (xs ys s : List ℕ) → begins (xs ++ ys) s ≡ (begins xs s && begins ys (drop (length xs) s))
unfolding begins
begins_append [] ys s = refl
begins_append (x ∷ xs) ys [] = refl
begins_append (x ∷ xs) ys (y ∷ s) =
    ap (λ (b : Bool). eqb x y && b) (begins_append xs ys s) ∙ sym (and_assoc (eqb x y) (begins xs s) (begins ys (drop (length xs) s)))

-- numbers one after the other: the second ones from index j on
pub begins-parts : (xs ys l : List ℕ) (i j : ℕ) → j ≡ i + length xs → begins (xs ++ ys) (drop i l) ≡ (begins xs (drop i l) && begins ys (drop j l))
begins-parts xs ys l i j e =
    begins_append xs ys (drop i l)
    ∙ ap (λ (s : List ℕ). begins xs (drop i l) && begins ys s) (drop-drop (length xs) i l ∙ ap (λ (n : ℕ). drop n l) (sym e))

eqb_swap : (x y : ℕ) → eqb x y ≡ eqb y x
eqb_swap x y = go (eqb x y) refl
  where
    go : (b : Bool) → eqb x y ≡ b → b ≡ eqb y x
    go true e = sym (eq-eqb y x (sym (eqb-true x y e)))
    go false e = sym (ne_eqb y x (λ q. eqb-false x y e (sym q)))

-- as many numbers of the list are the same
pub same-begins : (p s : List ℕ) → same (take (length p) s) p ≡ begins p s
unfolding begins same
same-begins [] s = refl
same-begins (x ∷ p) [] = refl
same-begins (x ∷ p) (y ∷ s) = (λ i. eqb_swap y x i && same-begins p s i)

-- a list of the same length
pub same_whole : (p s : List ℕ) → length p ≡ length s → same p s ≡ begins p s
unfolding same begins
same_whole [] [] e = refl
same_whole [] (y ∷ s) e = absurd (omega arith)
same_whole (x ∷ p) [] e = refl
same_whole (x ∷ p) (y ∷ s) e = ap (λ (b : Bool). eqb x y && b) (same_whole p s (omega arith))
