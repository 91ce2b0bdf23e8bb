-- The indent width at an index, one byte at a time; the end of a line or a comment at an index.
-- Assumes nothing.
use Prim.Native.Nat.{ℕ, ◌+◌, ◌≤◌, ◌<◌}
use mathlib.Core.Path.{◌≡◌, refl, sym, ◌∙◌}
use mathlib.Core.Bool.{Bool, true, false, ◌||◌}
use mathlib.Core.List.{List}
use native.Mathlib.Omega.{arith}
use native.Mathlib.Numerals.{add-one}
use lib.Dec.{eqb}
use lib.ListN.{length, get_or, drop, drop_of_length-le, length-drop}
use lib.Seq.{drop-cons}
use borrow.Author.Tests.{eq-eqb, ne_eqb}
use Rattle.std.specs.Prelude.{if◌then◌else◌}
use Rattle.rules.specs.Lists.{ascii, begins, run}
use Rattle.rules.specs.Tables.{is_blank}
use Rattle.rules.specs.Line.{is_space, is_tab, indent_width, indent_size, after_blanks, is_blank_line}
use Rattle.indent.specs.Indents.{ends_or_comment}

-- a space or a tab
abbrev pub indents : ℕ → Bool
indents b = is_space b || is_tab b

pub indent_size-run : (l : List ℕ) → indent_size l ≡ run indents l
unfolding indent_size
indent_size-run l = refl

module _ (l : List ℕ) (i : ℕ) (h : i < length l) where
  step : indent_width (drop i l) ≡ (if is_space (get_or l i 0) then 1 + indent_width (drop (i + 1) l) else if is_tab (get_or l i 0) then 4 + indent_width (drop (i + 1) l) else 0)
  unfolding indent_width
  step = rw (drop-cons l i 0 h, add-one)

  pub width_space : get_or l i 0 ≡ 32 → indent_width (drop i l) ≡ 1 + indent_width (drop (i + 1) l)
  unfolding is_space
  width_space e = step ∙ rw (eq-eqb (get_or l i 0) 32 e)

  pub width_tab : (get_or l i 0 ≡ 32 → ⊥) → get_or l i 0 ≡ 9 → indent_width (drop i l) ≡ 4 + indent_width (drop (i + 1) l)
  unfolding is_space is_tab
  width_tab n e = step ∙ rw (ne_eqb (get_or l i 0) 32 n, eq-eqb (get_or l i 0) 9 e)

  pub width-other : (get_or l i 0 ≡ 32 → ⊥) → (get_or l i 0 ≡ 9 → ⊥) → indent_width (drop i l) ≡ 0
  unfolding is_space is_tab
  width-other n m = step ∙ rw (ne_eqb (get_or l i 0) 32 n, ne_eqb (get_or l i 0) 9 m)

pub width-end : (l : List ℕ) (i : ℕ) → length l ≤ i → indent_width (drop i l) ≡ 0
unfolding indent_width
width-end l i h = rw (drop_of_length-le l h)

-- What stands at an index: the line's end, a `#`, or perhaps `//`.
module _ (l : List ℕ) (i : ℕ) where
  pub ends-empty : i ≡ length l → ends_or_comment (drop i l) ≡ true
  unfolding ends_or_comment
  ends-empty h = rw (drop_of_length-le l {i = i} (omega arith))

  module _ (h : i < length l) where
    some-rest : eqb (length (drop i l)) 0 ≡ false
    some-rest = ne_eqb (length (drop i l)) 0 (λ z. omega (arith, length-drop i l))

    pub ends_hash : get_or l i 0 ≡ 35 → ends_or_comment (drop i l) ≡ true
    unfolding ends_or_comment begins
    ends_hash e = rw (some-rest, drop-cons l i 0 h, eq-eqb 35 (get_or l i 0) (sym e))

    pub ends_slashes : (get_or l i 0 ≡ 35 → ⊥) → ends_or_comment (drop i l) ≡ begins (ascii "//") (drop i l)
    unfolding ends_or_comment begins
    ends_slashes n = rw (some-rest, drop-cons l i 0 h, ne_eqb 35 (get_or l i 0) (λ z. n (sym z)))

pub blank-line : (l : List ℕ) → is_blank_line l ≡ ends_or_comment (drop (run is_blank l) l)
unfolding is_blank_line after_blanks ends_or_comment
blank-line l = refl
