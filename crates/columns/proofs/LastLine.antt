-- The last line of a text that grows.
-- Assumes nothing.
use Prim.Native.Nat.{ℕ, suc, ◌+◌}
use mathlib.Core.Path.{◌≡◌, refl}
use mathlib.Core.Bool.{Bool, true, false}
use mathlib.Core.List.{List, [], ◌∷◌, ◌++◌}
use native.Mathlib.Omega.{arith}
use lib.Dec.{eqb}
use borrow.Author.Tests.{eq-eqb, ne_eqb}
use Rattle.std.specs.Prelude.{if◌then◌else◌}
use Rattle.rules.specs.Reading.{is_lf, count_lf}
use Rattle.rules.specs.Column.{last_line}

count_append : (s u : List ℕ) → count_lf (s ++ u) ≡ count_lf s + count_lf u
unfolding count_lf
count_append [] u = omega arith
count_append (b ∷ s) u = go (is_lf b) (count_append s u)
  where
    go : (x : Bool) → count_lf (s ++ u) ≡ count_lf s + count_lf u
        → (if x then suc (count_lf (s ++ u)) else count_lf (s ++ u)) ≡ (if x then suc (count_lf s) else count_lf s) + count_lf u
    go true i = omega arith
    go false i = i

whole-line : (s : List ℕ) → count_lf s ≡ 0 → last_line s ≡ s
unfolding last_line
whole-line [] h = refl
whole-line (b ∷ s) h = rw (eq-eqb (count_lf (b ∷ s)) 0 h)

-- with bytes that are no LF, it is longer by them
pub line_grows : (s u : List ℕ) → count_lf u ≡ 0 → last_line (s ++ u) ≡ last_line s ++ u
unfolding last_line
line_grows [] u h = whole-line u h
line_grows (b ∷ s) u h =
    let e : count_lf ((b ∷ s) ++ u) ≡ count_lf (b ∷ s) = omega (arith, count_append (b ∷ s) u) in
    rw e (go (eqb (count_lf (b ∷ s)) 0) (line_grows s u h))
  where
    go : (x : Bool) → last_line (s ++ u) ≡ last_line s ++ u → (if x then b ∷ (s ++ u) else last_line (s ++ u)) ≡ (if x then b ∷ s else last_line s) ++ u
    go true i = refl
    go false i = i

-- with an LF, it is empty
pub line-ends : (s : List ℕ) → last_line (s ++ 10 ∷ []) ≡ []
unfolding last_line count_lf
line-ends [] = refl
line-ends (b ∷ s) =
    let one : count_lf (10 ∷ []) ≡ 1 = refl in
    let some : count_lf ((b ∷ s) ++ 10 ∷ []) ≡ 0 → ⊥ = λ z. omega (arith, count_append (b ∷ s) (10 ∷ [])) in
    rw (ne_eqb (count_lf ((b ∷ s) ++ 10 ∷ [])) 0 some) (line-ends s)
