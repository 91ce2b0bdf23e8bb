-- A byte literal, one step at a time at an index.
-- Assumes nothing.
use Prim.Native.Nat.{ℕ, suc, ◌≤◌, ◌<◌}
use mathlib.Core.Path.{◌≡◌, refl, sym, ◌∙◌}
use mathlib.Core.Bool.{Bool, true, false, ◌&&◌, false≢true}
use mathlib.Core.List.{List, [], ◌∷◌}
use native.Mathlib.Omega.{arith}
use lib.Dec.{leb, eqb}
use lib.ListN.{length, get_or, drop, drop_of_length-le}
use lib.Seq.{drop-cons}
use borrow.Author.Tests.{eq-eqb, ne_eqb, eqb-true, eqb-false, le-leb, lt-leb, leb-true, lt-ltb, le-ltb}
use Rattle.std.specs.Prelude.{if◌then◌else◌}
use Rattle.std.specs.List.{list_any}
use Rattle.rules.specs.Lists.{within, ascii, any, elem}
use Rattle.rules.proofs.ListLaws.{and-true}
use Rattle.rules.specs.Kinds.{byte_lit}
use Rattle.rules.specs.Tables.{is_digit, is_hex_digit}
use Rattle.rules.specs.Failure.{empty, escape_above, expected_hex_digit, unknown_escape, control_character, non_ascii, expected_quote}
use Rattle.rules.specs.Cut.{token, failing, finding, line_ends, closing_cut, low_digit_cut, high_digit_cut, escape_cut, content_cut}

-- a byte outside a range
not_within : (lo hi b : ℕ) → (lo ≤ b → b ≤ hi → ⊥) → within lo hi b ≡ false
not_within lo hi b out = go (leb lo b) (leb b hi) refl refl
  where
    go : (x y : Bool) → leb lo b ≡ x → leb b hi ≡ y → (x && y) ≡ false
    go false y e f = refl
    go true false e f = refl
    go true true e f = absurd (out (leb-true lo b e) (leb-true b hi f))

-- one of some bytes
same-way : (a b : ℕ) → eqb a b ≡ eqb b a
same-way a b = go (eqb a b) refl
  where
    go : (x : Bool) → eqb a b ≡ x → x ≡ eqb b a
    go true e = sym (eq-eqb b a (sym (eqb-true a b e)))
    go false e = sym (ne_eqb b a (λ q. eqb-false a b e (sym q)))

pub among : (b : ℕ) (xs : List ℕ) → list_any (λ y. eqb y b) xs ≡ elem b xs
unfolding elem any
among b [] = refl
among b (x ∷ xs) = rw (same-way x b, among b xs)

low-digit-hex : (b : ℕ) → within 48 55 b ≡ true → is_hex_digit b ≡ true
unfolding is_hex_digit is_digit
low-digit-hex b h =
    let a = and-true (leb 48 b) (leb b 55) h in
    rw (a.0, le-leb b 57 (omega (arith, leb-true b 55 a.1)))

module _ (l : List ℕ) (i : ℕ) (h : i < length l) where
  pub closing_quote : (k : ℕ) → get_or l i 0 ≡ 39 → closing_cut k (drop i l) ≡ token byte_lit (suc k)
  unfolding closing_cut
  closing_quote k e = rw (drop-cons l i 0 h, eq-eqb (get_or l i 0) 39 e)

  pub closing-other : (k : ℕ) → (get_or l i 0 ≡ 39 → ⊥) → closing_cut k (drop i l) ≡ finding expected_quote k (drop i l)
  unfolding closing_cut
  closing-other k e = rw (drop-cons l i 0 h, ne_eqb (get_or l i 0) 39 e)

  pub low_digit : (j : ℕ) → j ≡ suc i → is_hex_digit (get_or l i 0) ≡ true → low_digit_cut (drop i l) ≡ closing_cut 6 (drop j l)
  unfolding low_digit_cut
  low_digit j n e = rw (drop-cons l i 0 h, e, n)

  pub low-other : is_hex_digit (get_or l i 0) ≡ false → low_digit_cut (drop i l) ≡ finding expected_hex_digit 5 (drop i l)
  unfolding low_digit_cut
  low-other e = rw (drop-cons l i 0 h, e)

  pub high_digit : (j : ℕ) → j ≡ suc i → 48 ≤ get_or l i 0 → get_or l i 0 ≤ 55 → high_digit_cut (drop i l) ≡ low_digit_cut (drop j l)
  unfolding high_digit_cut
  high_digit j n e k = rw (drop-cons l i 0 h, le-leb 48 (get_or l i 0) e, le-leb (get_or l i 0) 55 k, n)

  pub high-above : (48 ≤ get_or l i 0 → get_or l i 0 ≤ 55 → ⊥) → is_hex_digit (get_or l i 0) ≡ true → high_digit_cut (drop i l) ≡ failing escape_above 4 (drop i l)
  unfolding high_digit_cut
  high-above out e = rw (drop-cons l i 0 h, not_within 48 55 (get_or l i 0) out, e)

  pub high-other : is_hex_digit (get_or l i 0) ≡ false → high_digit_cut (drop i l) ≡ finding expected_hex_digit 4 (drop i l)
  unfolding high_digit_cut
  high-other e = rw (drop-cons l i 0 h) (go (within 48 55 (get_or l i 0)) refl)
    where
      go : (x : Bool) → within 48 55 (get_or l i 0) ≡ x
          → (if x then low_digit_cut (drop (suc i) l) else if is_hex_digit (get_or l i 0) then failing escape_above 4 (get_or l i 0 ∷ drop (suc i) l) else finding expected_hex_digit 4 (get_or l i 0 ∷ drop (suc i) l))
          ≡ finding expected_hex_digit 4 (get_or l i 0 ∷ drop (suc i) l)
      go true q = absurd (false≢true (sym e ∙ low-digit-hex (get_or l i 0) q))
      go false q = rw e

  pub escape-known : (j : ℕ) → j ≡ suc i → elem (get_or l i 0) (ascii "0tnr'\\\"") ≡ true → escape_cut (drop i l) ≡ closing_cut 4 (drop j l)
  unfolding escape_cut
  escape-known j n e = rw (drop-cons l i 0 h, e, n)

  pub escape-hex : (j : ℕ) → j ≡ suc i → elem (get_or l i 0) (ascii "0tnr'\\\"") ≡ false → get_or l i 0 ≡ 120 → escape_cut (drop i l) ≡ high_digit_cut (drop j l)
  unfolding escape_cut
  escape-hex j n e q = rw (drop-cons l i 0 h, e, eq-eqb (get_or l i 0) 120 q, n)

  pub escape-other : elem (get_or l i 0) (ascii "0tnr'\\\"") ≡ false → (get_or l i 0 ≡ 120 → ⊥) → escape_cut (drop i l) ≡ finding unknown_escape 3 (drop i l)
  unfolding escape_cut
  escape-other e q = rw (drop-cons l i 0 h, e, ne_eqb (get_or l i 0) 120 q)

  pub content-empty : get_or l i 0 ≡ 39 → content_cut (drop i l) ≡ failing empty 2 (drop i l)
  unfolding content_cut
  content-empty e = rw (drop-cons l i 0 h, eq-eqb (get_or l i 0) 39 e)

  module _ (q : get_or l i 0 ≡ 39 → ⊥) where
    pub content-escape : (j : ℕ) → j ≡ suc i → get_or l i 0 ≡ 92 → content_cut (drop i l) ≡ escape_cut (drop j l)
    unfolding content_cut
    content-escape j n e = rw (drop-cons l i 0 h, ne_eqb (get_or l i 0) 39 q, eq-eqb (get_or l i 0) 92 e, n)

    module _ (r : get_or l i 0 ≡ 92 → ⊥) where
      pub content-printed : (j : ℕ) → j ≡ suc i → 0x20 ≤ get_or l i 0 → get_or l i 0 ≤ 0x7E → content_cut (drop i l) ≡ closing_cut 3 (drop j l)
      unfolding content_cut
      content-printed j n e f =
          rw (drop-cons l i 0 h, ne_eqb (get_or l i 0) 39 q, ne_eqb (get_or l i 0) 92 r, le-leb 0x20 (get_or l i 0) e, le-leb (get_or l i 0) 0x7E f, n)

      pub content_control : (0x20 ≤ get_or l i 0 → get_or l i 0 ≤ 0x7E → ⊥) → get_or l i 0 < 0x80 → content_cut (drop i l) ≡ finding control_character 2 (drop i l)
      unfolding content_cut
      content_control out e =
          rw (drop-cons l i 0 h, ne_eqb (get_or l i 0) 39 q, ne_eqb (get_or l i 0) 92 r, not_within 0x20 0x7E (get_or l i 0) out, lt-ltb (get_or l i 0) 0x80 e)

      pub content_foreign : 0x80 ≤ get_or l i 0 → content_cut (drop i l) ≡ finding non_ascii 2 (drop i l)
      unfolding content_cut
      content_foreign e =
          rw (
            drop-cons l i 0 h,
            ne_eqb (get_or l i 0) 39 q,
            ne_eqb (get_or l i 0) 92 r,
            le-leb 0x20 (get_or l i 0) (omega arith),
            lt-leb (get_or l i 0) 0x7E (omega arith),
            le-ltb (get_or l i 0) 0x80 e,
          )

-- at the line's end
module _ (l : List ℕ) (i : ℕ) (h : length l ≤ i) where
  pub closing_end : (k : ℕ) → closing_cut k (drop i l) ≡ line_ends k
  unfolding closing_cut
  closing_end k = rw (drop_of_length-le l h)

  pub low_end : low_digit_cut (drop i l) ≡ line_ends 5
  unfolding low_digit_cut
  low_end = rw (drop_of_length-le l h)

  pub high_end : high_digit_cut (drop i l) ≡ line_ends 4
  unfolding high_digit_cut
  high_end = rw (drop_of_length-le l h)

  pub escape_end : escape_cut (drop i l) ≡ line_ends 3
  unfolding escape_cut
  escape_end = rw (drop_of_length-le l h)

  pub content-end : content_cut (drop i l) ≡ line_ends 2
  unfolding content_cut
  content-end = rw (drop_of_length-le l h)
