-- Laws of LFs counted, and of a record's words tested one after the other.
-- Assumes nothing.
use Prim.Native.Nat.{ℕ, suc, ◌+◌, ◌≤◌, ◌<◌}
use mathlib.Core.Path.{◌≡◌, refl, sym, ap, ◌∙◌}
use mathlib.Core.Bool.{Bool, true, false}
use mathlib.Core.List.{List, [], ◌∷◌, ◌++◌}
use native.Mathlib.Omega.{arith}
use native.Mathlib.Nat.{zero-add}
use native.Mathlib.Numerals.{add-one}
use lib.Dec.{leb, eqb}
use lib.ListN.{length, get_or, take}
use lib.Seq.{take-suc}
use mir.Val.{bool_byte}
use borrow.Author.Tests.{le-leb, leb-true}
use Rattle.std.specs.Prelude.{if◌then◌else◌}
use Rattle.rules.specs.Lists.{bit}
use Rattle.rules.specs.Reading.{count_lf}
use Rattle.rules.specs.Limits.{max_levels}
use Rattle.rules.proofs.ListLaws.{and-true}
use Rattle.records.specs.Words.{line_word}
use Rattle.planning.specs.Starts.{is_usable}

pub count_append : (xs ys : List ℕ) → count_lf (xs ++ ys) ≡ count_lf xs + count_lf ys
unfolding count_lf
count_append [] ys = sym (zero-add (count_lf ys))
count_append (x ∷ xs) ys = go (eqb x 10) (count_append xs ys)
  where
    go : (y : Bool) → count_lf (xs ++ ys) ≡ count_lf xs + count_lf ys → (if y then suc (count_lf (xs ++ ys)) else count_lf (xs ++ ys)) ≡ (if y then suc (count_lf xs) else count_lf xs) + count_lf ys
    go true e = omega arith
    go false e = e

count-one : (b : ℕ) → count_lf (b ∷ []) ≡ bit (eqb b 10)
unfolding count_lf
count-one b = go (eqb b 10)
  where
    go : (y : Bool) → (if y then 1 else 0) ≡ bit y
    go true = refl
    go false = refl

pub count-more : (t : List ℕ) (x : ℕ) → x < length t → count_lf (take (x + 1) t) ≡ count_lf (take x t) + bit (eqb (get_or t x 0) 10)
count-more t x h = ap count_lf (ap (λ (n : ℕ). take n t) (add-one x) ∙ take-suc t x 0 h) ∙ count_append (take x t) (get_or t x 0 ∷ []) ∙ ap (λ (n : ℕ). count_lf (take x t) + n) (count-one (get_or t x 0))

pub count-le : (xs : List ℕ) → count_lf xs ≤ length xs
unfolding count_lf
count-le [] = omega arith
count-le (x ∷ xs) = go (eqb x 10) (count-le xs)
  where
    go : (y : Bool) → count_lf xs ≤ length xs → (if y then suc (count_lf xs) else count_lf xs) ≤ suc (length xs)
    go true e = omega (arith, e)
    go false e = omega (arith, e)

module _ (lines : List ℕ) (i k a : ℕ) where
  -- what the tests say of the record
  pub record Usable : Type 0 where
    pub start : line_word lines i 0 ≤ a
    pub number : i ≤ line_word lines i 0
    pub first : line_word lines i 1 ≤ k
    pub depth : line_word lines i 2 ≤ line_word lines i 0
    pub levels : line_word lines i 4 ≤ max_levels

  pub usable_true : is_usable lines i k a ≡ true → Usable
  usable_true h =
      let x1 = and-true (leb (line_word lines i 0) a) _ h in
      let x2 = and-true (leb i (line_word lines i 0)) _ x1.1 in
      let x3 = and-true (leb (line_word lines i 1) k) _ x2.1 in
      let x4 = and-true (leb (line_word lines i 2) (line_word lines i 0)) _ x3.1 in
      record {
        start = leb-true (line_word lines i 0) a x1.0;
        number = leb-true i (line_word lines i 0) x2.0;
        first = leb-true (line_word lines i 1) k x3.0;
        depth = leb-true (line_word lines i 2) (line_word lines i 0) x4.0;
        levels = leb-true (line_word lines i 4) max_levels x4.1;
      }

  pub true_usable : Usable → is_usable lines i k a ≡ true
  true_usable u =
      rw (
        le-leb (line_word lines i 0) a u.start,
        le-leb i (line_word lines i 0) u.number,
        le-leb (line_word lines i 1) k u.first,
        le-leb (line_word lines i 2) (line_word lines i 0) u.depth,
        le-leb (line_word lines i 4) max_levels u.levels,
      )

pub byte-bit : (b : Bool) → bool_byte b ≡ bit b
byte-bit true = refl
byte-bit false = refl

pub bit_le : (b : Bool) → bit b ≤ 1
bit_le true = omega arith
bit_le false = omega arith
