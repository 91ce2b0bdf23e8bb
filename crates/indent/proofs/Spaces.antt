-- A line behind its leading spaces: its width, its blanks and its cuts.
-- Assumes nothing.
use Prim.Native.Nat.{ℕ, suc, ◌+◌, ◌≤◌}
use mathlib.Core.Path.{◌≡◌, refl, sym, ap, ◌∙◌}
use mathlib.Core.Bool.{Bool, true, false}
use mathlib.Core.List.{List, [], ◌∷◌}
use native.Mathlib.Omega.{arith}
use native.Mathlib.Nat.{zero-add}
use lib.ListN.{length, drop}
use Rattle.rules.specs.Lists.{elem, any, run}
use Rattle.rules.specs.Tables.{is_blank, class_of}
use Rattle.rules.specs.Cut.{blank, cut, cut_by}
use Rattle.rules.specs.Line.{cut_step, cuts_from, is_space, indent_width}
use Rattle.rules.proofs.ListLaws.{run_true, run_false, run-le}

-- a run is the front of another test's run where that test takes all its elements
run-behind : (f g : ℕ → Bool) → ((b : ℕ) → f b ≡ true → g b ≡ true) → (l : List ℕ) → run g l ≡ run f l + run g (drop (run f l) l)
unfolding run
run-behind f g sub [] = refl
run-behind f g sub (b ∷ l) = go (run-behind f g sub l) (f b) refl
  where
    go : run g l ≡ run f l + run g (drop (run f l) l) → (x : Bool) → f b ≡ x → run g (b ∷ l) ≡ run f (b ∷ l) + run g (drop (run f (b ∷ l)) (b ∷ l))
    go more true e = rw (run_true f b l e, run_true g b l (sub b e)) (omega (arith, more))
    go more false e = rw (run_false f b l e) (sym (zero-add (run g (b ∷ l))))

-- a space is blank
space_blank : (b : ℕ) → is_space b ≡ true → is_blank b ≡ true
unfolding is_space is_blank elem any
space_blank b e = rw e

space_cut : (b : ℕ) (l : List ℕ) → is_space b ≡ true → cut (b ∷ l) ≡ blank
unfolding cut cut_by class_of
space_cut b l e = rw (space_blank b e)

width-split : (l : List ℕ) → indent_width l ≡ run is_space l + indent_width (drop (run is_space l) l)
unfolding indent_width run
width-split [] = refl
width-split (b ∷ l) = go (width-split l) (is_space b) refl
  where
    go : indent_width l ≡ run is_space l + indent_width (drop (run is_space l) l) → (x : Bool) → is_space b ≡ x → indent_width (b ∷ l) ≡ run is_space (b ∷ l) + indent_width (drop (run is_space (b ∷ l)) (b ∷ l))
    go more true e = rw (run_true is_space b l e, e) (omega (arith, more))
    go more false e = rw (run_false is_space b l e) (sym (zero-add (indent_width (b ∷ l))))

cuts-split : (at : ℕ) (l : List ℕ) → cuts_from at 0 l ≡ cuts_from (at + run is_space l) 0 (drop (run is_space l) l)
unfolding cuts_from cut_step run
cuts-split at [] = refl
cuts-split at (b ∷ l) = go (cuts-split (suc at) l) (is_space b) refl
  where
    go : cuts_from (suc at) 0 l ≡ cuts_from (suc at + run is_space l) 0 (drop (run is_space l) l) → (x : Bool) → is_space b ≡ x → cuts_from at 0 (b ∷ l) ≡ cuts_from (at + run is_space (b ∷ l)) 0 (drop (run is_space (b ∷ l)) (b ∷ l))
    go more true e =
        let m : suc at + run is_space l ≡ at + suc (run is_space l) = omega arith in
        rw (run_true is_space b l e, space_cut b l e) (more ∙ ap (λ (i : ℕ). cuts_from i 0 (drop (run is_space l) l)) m)
    go more false e =
        let m : at ≡ at + 0 = omega arith in
        rw (run_false is_space b l e) (ap (λ (i : ℕ). cuts_from i 0 (b ∷ l)) m)

module _ (l : List ℕ) (s : ℕ) (is : s ≡ run is_space l) where
  pub spaces_le : s ≤ length l
  spaces_le = omega (arith, run-le is_space l)

  pub cuts-behind : cuts_from 0 0 l ≡ cuts_from s 0 (drop s l)
  cuts-behind = rw is (cuts-split 0 l ∙ ap (λ (i : ℕ). cuts_from i 0 (drop (run is_space l) l)) (zero-add (run is_space l)))

  pub width-behind : indent_width l ≡ s + indent_width (drop s l)
  width-behind = rw is (width-split l)

  pub blanks-behind : run is_blank l ≡ s + run is_blank (drop s l)
  blanks-behind = rw is (run-behind is_space is_blank space_blank l)
