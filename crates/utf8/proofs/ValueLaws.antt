-- A scalar's value, by the low bits of its bytes.
-- Assumes nothing.
use Prim.Native.Nat.{ℕ, zero, suc, pred, ◌+◌, ◌-◌, ◌*◌, ◌%◌, ◌≤◌, ◌<◌}
use mathlib.Core.Path.{◌≡◌, refl, sym, ◌∙◌, ap}
use mathlib.Core.Bool.{Bool, true, false, ◌&&◌, false≢true}
use mathlib.Core.List.{List, [], ◌∷◌}
use mathlib.Core.Option.{Option, none, some}
use native.Mathlib.Omega.{arith}
use native.Mathlib.Numerals.{add-one}
use lib.Dec.{T, leb, eqb}
use lib.ListN.{length, get_or, take, drop, drop_of_length-le}
use lib.Seq.{drop-cons}
use borrow.Author.Tests.{leb-true, eqb-true}
use Rattle.laws.proofs.Below.{at}
use Rattle.rules.specs.Lists.{within, every}
use Rattle.rules.specs.Utf8.{Range, table, following, in_ranges, scalar_size, six_bits, first_bits, scalar_value}
use Rattle.rules.proofs.ListLaws.{and-true}
use Rattle.rules.proofs.Utf8Laws.{later}
use Rattle.utf8.specs.Value.{low_first}
use Rattle.utf8.proofs.SizeLaws.{size_in}

-- six low bits of each later byte, after a value
pub low_bits : ℕ → List ℕ → ℕ
low_bits v [] = v
low_bits v (c ∷ s) = low_bits (v * 64 + c % 64) s

is_later : Range → Bool
is_later r = leb 0x80 r.lo && leb r.hi 0xBF

is_first : ℕ → ℕ → Bool
is_first n b = leb n 4 && eqb (first_bits n b) (low_first n b)

-- what holds of a first byte's row: its own low bits, at most four bytes in all, and the ranges of the later ones
holds : ℕ → Option (List Range) → Bool
holds b none = true
holds b (some rs) = is_first (suc (length rs)) b && every is_later rs

T_true : (b : Bool) → T b → b ≡ true
T_true true t = refl
T_true false t = absurd t

-- by one test over the 256 bytes
row-holds : (b : ℕ) → b < 256 → holds b (following table b) ≡ true
unfolding holds is_first is_later following table first_bits low_first every
row-holds b h = T_true (holds b (following table b)) (at (λ b. holds b (following table b)) 256 tt b h)

low_six : {lo hi : ℕ} (c : ℕ) → 0x80 ≤ lo → lo ≤ c → c ≤ hi → hi ≤ 0xBF → c - 0x80 ≡ c % 64
low_six c h k k' h' = omega arith

six_low : (rs : List Range) (v : ℕ) (s : List ℕ) → every is_later rs ≡ true → in_ranges rs s ≡ true → six_bits v (take (length rs) s) ≡ low_bits v (take (length rs) s)
unfolding every is_later in_ranges six_bits low_bits
six_low [] v s l h = refl
six_low (r ∷ rs) v [] l h = absurd (false≢true h)
six_low (r ∷ rs) v (c ∷ s) l h =
    let k = and-true (is_later r) (every is_later rs) l in
    let k' = and-true (leb 0x80 r.lo) (leb r.hi 0xBF) k.0 in
    let w = and-true (within r.lo r.hi c) (in_ranges rs s) h in
    let w' = and-true (leb r.lo c) (leb c r.hi) w.0 in
    let e = low_six c (leb-true 0x80 r.lo k'.0) (leb-true r.lo c w'.0) (leb-true c r.hi w'.1) (leb-true r.hi 0xBF k'.1) in
    ap (λ (x : ℕ). six_bits (v * 64 + x) (take (length rs) s)) e ∙ six_low rs (v * 64 + c % 64) s k.1 w.1

value_none : (b : ℕ) (s : List ℕ) → 0 ≡ scalar_size (b ∷ s) → scalar_value (b ∷ s) ≡ low_bits (low_first 0 b) []
unfolding scalar_value first_bits six_bits low_first low_bits
value_none b s e = rw (← e)

-- the value of a scalar of length m
value-by : (b : ℕ) (s : List ℕ) (m : ℕ) → b < 256 → m ≡ scalar_size (b ∷ s) → (m ≤ 4) × (scalar_value (b ∷ s) ≡ low_bits (low_first m b) (take (pred m) s))
unfolding scalar_value holds is_first
value-by b s zero h e = (omega arith, value_none b s e)
value-by b s (suc n) h e =
    let l = later b s n (sym e) in
    let k = and-true (is_first (suc (length l.ranges)) b) (every is_later l.ranges) (rw l.row at (row-holds b h)) in
    let f = and-true (leb (suc n) 4) (eqb (first_bits (suc n) b) (low_first (suc n) b)) (rw l.count at k.0) in
    let x = six_low l.ranges (first_bits (suc n) b) s k.1 l.fit in
    (leb-true (suc n) 4 f.0, rw (← e) (rw l.count at x ∙ rw (eqb-true (first_bits (suc n) b) (low_first (suc n) b) f.1)))

-- at an index
pub record Valued (t : List ℕ) (i m : ℕ) : Type 0 where
  pub inside : i + m ≤ length t
  pub most : m ≤ 4
  pub value : scalar_value (drop i t) ≡ low_bits (low_first m (get_or t i 0)) (take (pred m) (drop (i + 1) t))

pub valued : (t : List ℕ) (i m : ℕ) → i < length t → get_or t i 0 < 256 → m ≡ scalar_size (drop i t) → Valued t i m
valued t i m h k e =
    let v = value-by (get_or t i 0) (drop (suc i) t) m k (rw (drop-cons t i 0 h) at e) in
    record { inside = size_in t i m (omega arith) e; most = v.0; value = rw (drop-cons t i 0 h, add-one) v.1 }

pub value-past : (t : List ℕ) (i : ℕ) → length t ≤ i → 0 ≡ scalar_value (drop i t)
unfolding scalar_value
value-past t i h = rw (drop_of_length-le t h)

take_from : (t : List ℕ) (i n : ℕ) → i + suc n ≤ length t → take (suc n) (drop i t) ≡ get_or t i 0 ∷ take n (drop (i + 1) t)
take_from t i n h = rw (drop-cons t i 0 (omega arith), add-one)

pred_zero : (m : ℕ) → m < 2 → pred m ≡ 0
pred_zero zero h = refl
pred_zero (suc zero) h = refl
pred_zero (suc (suc m)) h = absurd (omega arith)

-- One law for each return.

module _ {t : List ℕ} {i m one : ℕ} (v : Valued t i m) (e1 : one ≡ low_first m (get_or t i 0)) where
  pub value-one : m < 2 → one ≡ scalar_value (drop i t)
  unfolding low_bits
  value-one h = e1 ∙ sym (v.value ∙ rw (pred_zero m h))

  module _ {two : ℕ} (e2 : two ≡ one * 64 + get_or t (i + 1) 0 % 64) where
    pub value-two : m ≡ 2 → two ≡ scalar_value (drop i t)
    unfolding low_bits
    value-two h =
        let x = take_from t (i + 1) 0 (omega arith) in
        sym (v.value ∙ rw (e2, e1, h, x))

    module _ {three : ℕ} (e3 : three ≡ two * 64 + get_or t (i + 2) 0 % 64) where
      pub value_three : m ≡ 3 → three ≡ scalar_value (drop i t)
      unfolding low_bits
      value_three h =
          let n2 : (i + 1) + 1 ≡ i + 2 = omega arith in
          let x = take_from t (i + 1) 1 (omega arith) in
          let y = take_from t (i + 2) 0 (omega arith) in
          sym (v.value ∙ rw (e3, e2, e1, h, x, n2, y))

      pub value_four : {four : ℕ} → four ≡ three * 64 + get_or t (i + 3) 0 % 64 → m ≡ 4 → four ≡ scalar_value (drop i t)
      unfolding low_bits
      value_four e4 h =
          let n2 : (i + 1) + 1 ≡ i + 2 = omega arith in
          let n3 : (i + 2) + 1 ≡ i + 3 = omega arith in
          let x = take_from t (i + 1) 2 (omega arith) in
          let y = take_from t (i + 2) 1 (omega arith) in
          let z = take_from t (i + 3) 0 (omega arith) in
          sym (v.value ∙ rw (e4, e3, e2, e1, h, x, n2, y, n3, z))
