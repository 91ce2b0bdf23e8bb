-- Passing scalars: one at a time, and ASCII by the block.
-- Assumes nothing.
use Prim.Native.Nat.{ℕ, zero, suc, ◌+◌, ◌≤◌, ◌<◌, zero-le}
use mathlib.Core.Path.{◌≡◌, refl, sym, ◌∙◌}
use mathlib.Core.Bool.{Bool, true, false, ◌&&◌}
use mathlib.Core.List.{List}
use mathlib.Core.Logic.{⊎_elim}
use native.Mathlib.Omega.{arith}
use native.Mathlib.Nat.{add-zero, eq-or-lt_of_le}
use native.Mathlib.Numerals.{add-one}
use lib.Bits.{bit_or, or_lt, or_add_and, and_le_l, and_le_r}
use lib.Dec.{ltb}
use lib.ListN.{length, get_or, drop, length-drop}
use lib.Seq.{drop-cons}
use borrow.Author.Tests.{ltb-true, ltb-false, lt-ltb, le-ltb, le-leb}
use Rattle.rules.specs.Lists.{every}
use Rattle.rules.specs.Utf8.{table, following, in_ranges, size_by, scalar_size, well_formed_prefix}
use Rattle.rules.proofs.ListLaws.{and-true}
use Rattle.rules.proofs.Utf8Laws.{prefix_le, prefix_pass, prefix_stop}
use Rattle.utf8.proofs.SizeLaws.{size_in}
use Rattle.utf8.specs.Passed.{is_ascii, Reached, Passed}

pub none_passed : {t : List ℕ} {i : ℕ} → i ≤ length t → Reached t i i
none_passed h = record { within = h; same = refl }

pub and_then : {t : List ℕ} {from i j : ℕ} → Reached t from i → Reached t i j → Reached t from j
and_then r s = record { within = s.within; same = s.same ∙ r.same }

-- one scalar
module _ {t : List ℕ} {i : ℕ} (h : i ≤ length t) where
  one-passed : (m : ℕ) → m ≡ scalar_size (drop i t) → (m ≡ 0 → ⊥) → Reached t i (i + m)
  one-passed zero e z = absurd (z refl)
  one-passed (suc n) e z = record {
    within = size_in t i (suc n) h e;
    same = omega (arith, prefix_pass t i n (sym e));
  }

pub more : {t : List ℕ} {from i m : ℕ} → Reached t from i → m ≡ scalar_size (drop i t) → (m ≡ 0 → ⊥) → Reached t from (i + m)
more {m = m} r e z = and_then r (one-passed r.within m e z)

pub no_more : {t : List ℕ} {from end i m : ℕ} → Reached t from i → m ≡ scalar_size (drop i t) → m ≡ 0 → Passed t from end i
no_more {t} {i = i} r e z = record { reached = r; stop = λ h. prefix_stop t i (sym e ∙ z) }

pub far-enough : {t : List ℕ} {from end i : ℕ} → Reached t from i → end ≤ i → Passed t from end i
far-enough r h = record { reached = r; stop = λ l. absurd (omega arith) }

-- the bits of two bytes
or_below : (a b : ℕ) (x : Bool) → (ltb (bit_or a b) 128 && x) ≡ (ltb a 128 && (ltb b 128 && x))
or_below a b x = go (ltb a 128) (ltb b 128) refl refl
  where
    go : (p q : Bool) → ltb a 128 ≡ p → ltb b 128 ≡ q → (ltb (bit_or a b) 128 && x) ≡ (p && (q && x))
    go true true e f = rw (lt-ltb (bit_or a b) 128 (or_lt 7 a b (ltb-true a 128 e) (ltb-true b 128 f)))
    go true false e f = rw (le-ltb (bit_or a b) 128 (omega (arith, or_add_and a b, and_le_l a b, ltb-false b 128 f)))
    go false q e f = rw (le-ltb (bit_or a b) 128 (omega (arith, or_add_and a b, and_le_r a b, ltb-false a 128 e)))

and_one : (x : Bool) → (x && true) ≡ x
and_one true = refl
and_one false = refl

-- n bytes of ASCII
module _ (t : List ℕ) where
  byte-is-ascii : (i n : ℕ) → i < length t → is_ascii t i (suc n) ≡ (ltb (get_or t i 0) 128 && is_ascii t (suc i) n)
  unfolding is_ascii every
  byte-is-ascii i n h = rw (drop-cons t i 0 h)

  ascii-size : (i : ℕ) → i < length t → get_or t i 0 < 128 → 1 ≡ scalar_size (drop i t)
  unfolding scalar_size size_by following table in_ranges
  ascii-size i h k = rw (drop-cons t i 0 h, le-leb 0 (get_or t i 0) zero-le, le-leb (get_or t i 0) 127 (omega arith))

  pub ascii-passed : (i n : ℕ) → i + n ≤ length t → is_ascii t i n ≡ true → Reached t i (i + n)
  ascii-passed i zero h a = rw add-zero (none_passed (omega arith))
  ascii-passed i (suc n) h a =
      let b = and-true (ltb (get_or t i 0) 128) _ (sym (byte-is-ascii i n (omega arith)) ∙ a) in
      let one : Reached t i (i + 1) = more (none_passed (omega arith)) (ascii-size i (omega arith) (ltb-true _ _ b.0)) (λ z. omega arith) in
      let e : suc i + n ≡ i + suc n = omega arith in
      rw (← e) (and_then (rw add-one at one) (ascii-passed (suc i) n (omega arith) b.1))

  -- the bits of the bytes before i, and n + 1 bytes to come
  pub bits_more : (bits i n : ℕ) → i < length t → (ltb (bit_or bits (get_or t i 0)) 128 && is_ascii t (suc i) n) ≡ (ltb bits 128 && is_ascii t i (suc n))
  bits_more bits i n h = or_below bits (get_or t i 0) (is_ascii t (suc i) n) ∙ rw (byte-is-ascii i n h)

  pub no_bytes : (bits i : ℕ) → (ltb bits 128 && is_ascii t i 0) ≡ ltb bits 128
  unfolding is_ascii every
  no_bytes bits i = and_one (ltb bits 128)

-- the whole text
module _ {t : List ℕ} where
  pub stopped : {i end r : ℕ} → Reached t 0 i → Passed t i end r → r < end → r ≡ well_formed_prefix t
  stopped a p h = let z = p.stop h in omega (arith, (and_then a p.reached).same)

  pub ended : {i r : ℕ} → Reached t 0 i → Passed t i (length t) r → r ≡ well_formed_prefix t
  ended {r = r} a p =
      ⊎_elim (λ (e : r ≡ length t). omega (arith, (and_then a p.reached).same, prefix_le (drop r t), length-drop r t)) (stopped a p)
      (eq-or-lt_of_le p.reached.within)
