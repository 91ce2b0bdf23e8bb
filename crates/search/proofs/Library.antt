-- What the library's searches give, in the words of the rules.
-- Assumes nothing.
use Prim.Native.Nat.{ℕ, suc, ◌+◌, ◌-◌}
use mathlib.Core.Path.{◌≡◌, refl, ap, ◌∙◌}
use mathlib.Core.Bool.{Bool, true, false}
use mathlib.Core.List.{List, [], ◌∷◌, reverse}
use native.Mathlib.Omega.{arith}
use lib.Dec.{eqb}
use lib.ListN.{length, take, drop, length-drop, length-reverse}
use lib.Seq.{take_all}
use borrow.Author.Tests.{eq-eqb, ne_eqb}
use Rattle.std.specs.List.{prefix_len, suffix_len}
use Rattle.std.specs.Prelude.{cond}
use Rattle.std.proofs.lemmas.Grind.{reverse_onto}
use Rattle.std.proofs.lemmas.List.Folds.{prefix_len-append}
use Rattle.rules.specs.Lists.{trimmed, trim_end}

-- a line from `at` on, as a part of it
pub from-at : (l : List ℕ) (at : ℕ) → take (length l - at) (drop at l) ≡ drop at l
from-at l at = take_all (length l - at) (drop at l) (omega (arith, length-drop at l))

-- what is trimmed, and what is left
pub trim-suffix : (f : ℕ → Bool) (l : List ℕ) → length (trim_end f l) + suffix_len f l ≡ length l
unfolding trim_end trimmed
trim-suffix f [] = refl
trim-suffix f (x ∷ l) =
    go (trim_end f l) (f x) refl (trim-suffix f l) (ap (λ (s : List ℕ). prefix_len f s) (reverse_onto l x []) ∙ prefix_len-append f (reverse l) (x ∷ []))
  where
    go : (t : List ℕ) (b : Bool) → f x ≡ b → length t + suffix_len f l ≡ length l
        → suffix_len f (x ∷ l) ≡ cond (eqb (suffix_len f l) (length (reverse l))) (length (reverse l) + prefix_len f (x ∷ [])) (suffix_len f l)
        → length (trimmed b x t) + suffix_len f (x ∷ l) ≡ suc (length l)
    go [] true h more is =
        let all : suffix_len f l ≡ length (reverse l) = omega (arith, more, length-reverse l) in
        let r = rw (eq-eqb (suffix_len f l) (length (reverse l)) all, h) at is in
        omega (arith, r, length-reverse l)
    go [] false h more is =
        let all : suffix_len f l ≡ length (reverse l) = omega (arith, more, length-reverse l) in
        let r = rw (eq-eqb (suffix_len f l) (length (reverse l)) all, h) at is in
        omega (arith, r, length-reverse l)
    go (y ∷ t) b h more is =
        let r = rw (ne_eqb (suffix_len f l) (length (reverse l)) (λ e. omega (arith, more, length-reverse l))) at is in
        omega (arith, more, r)
