-- Bytes put into a part of a buffer, and the digits of a number, one at a time.
-- Assumes nothing.
use Prim.Native.Nat.{ℕ, zero, suc, ◌+◌, ◌-◌, ◌/◌, ◌%◌, ◌*◌, ◌^◌, ◌≤◌, ◌<◌, suc-le-suc}
use mathlib.Core.Path.{◌≡◌, refl, sym, ap, ◌∙◌}
use mathlib.Core.Bool.{Bool, true, false}
use mathlib.Core.List.{List, [], ◌∷◌, ◌++◌, append_assoc, append-nil}
use native.Mathlib.Omega.{arith}
use native.Mathlib.Nat.{pow-suc}
use lib.Dec.{ltb}
use lib.ListN.{length, take, drop, set, length-drop, drop_of_length-le}
use lib.Seq.{sets, length-take-le}
use borrow.Rule.Slice.PartMut.{put_mid}
use Rattle.std.proofs.lemmas.List.Edits.{sets-eq}
use Rattle.std.proofs.Common.{drop-drop}
use borrow.Author.Tests.{lt-ltb, ltb-true, ltb-false}
use Rattle.laws.proofs.Sets.{sets_before}
use Rattle.rules.specs.Report.{digit, digits_in, places_from, decimal}

pub length_digits : (base places n : ℕ) (tail : List ℕ) → length (digits_in base places n tail) ≡ places + length tail
unfolding digits_in
length_digits base zero n tail = omega arith
length_digits base (suc places) n tail = omega (arith, length_digits base places (n / base) (digit (n % base) ∷ tail))

-- bytes copied into a part of a buffer
pub run_put : (l vs ys : List ℕ) (i k : ℕ) → ys ≡ vs → k ≡ length vs → i + length vs ≤ length l → put_mid i k l ys ≡ sets l i vs
run_put l vs ys i k e f h =
    rw (e, f, drop-drop (length vs) i l) (sym (append_assoc (take i l) vs (drop (i + length vs) l)) ∙ sym (sets-eq vs l i h))

-- a part that is so long
pub part_length : (l : List ℕ) (i n k : ℕ) → k ≡ n → i + n ≤ length l → length (take k (drop i l)) ≡ n
part_length l i n k e h =
    rw e (length-take-le n (drop i l) (omega (arith, length-drop i l)))

-- Digits of n that fill a buffer, the last one first: those from `left` on stand there, and `rest` is what is left of n.

pub record Digits (out₀ : List ℕ) (base n : ℕ) (out : List ℕ) (left rest : ℕ) : Type 0 where
  pub tail : List ℕ
  pub written : out ≡ sets out₀ left tail
  pub whole : digits_in base left rest tail ≡ digits_in base (length out₀) n []

pub digits_more : {out₀ : List ℕ} {base n : ℕ} {out : List ℕ} {left rest : ℕ} → Digits out₀ base n out left rest → 0 < left
    → Digits out₀ base n (set out (left - 1) (digit (rest % base))) (left - 1) (rest / base)
unfolding digits_in
digits_more {out₀} {base} {n} {out} {left} {rest} v h =
    let d : ℕ = digit (rest % base) in
    let e : left ≡ left - 1 + 1 = omega arith in
    let s : left ≡ suc (left - 1) = omega arith in
    record {
      tail = d ∷ v.tail;
      written = ap (λ (l : List ℕ). set l (left - 1) d) (v.written ∙ ap (λ (i : ℕ). sets out₀ i v.tail) e) ∙ sets_before (d ∷ []) v.tail out₀ (left - 1);
      whole = sym (ap (λ (k : ℕ). digits_in base k rest v.tail) s) ∙ v.whole;
    }

pub digits-done : {out₀ : List ℕ} {base n : ℕ} {out : List ℕ} {rest : ℕ} → Digits out₀ base n out 0 rest → out ≡ digits_in base (length out₀) n []
unfolding digits_in
digits-done {out₀} {base} {n} {out} {rest} v =
    let l : length v.tail ≡ length out₀ = omega (arith, ap length v.whole, length_digits base (length out₀) n []) in
    let ends : drop (0 + length v.tail) out₀ ≡ [] = drop_of_length-le out₀ (omega arith) in
    v.written ∙ sets-eq v.tail out₀ 0 (omega arith) ∙ ap (λ (r : List ℕ). v.tail ++ r) ends ∙ append-nil v.tail ∙ v.whole

-- Places.

pub places-one : (n : ℕ) → n < 10 → places_from n n ≡ 1
unfolding places_from
places-one n h = go n
  where
    go : (fuel : ℕ) → places_from fuel n ≡ 1
    go zero = refl
    go (suc fuel) = rw (lt-ltb n 10 h, places_from)

-- a number below a power of ten has no more places than that
pub places-le : (k fuel n : ℕ) → n < 10 ^ suc k → places_from fuel n ≤ suc k
unfolding places_from
places-le k zero n h = omega arith
places-le k (suc fuel) n h = go (ltb n 10) refl k h (λ j g. places-le j fuel (n / 10) g)
  where
    go : (b : Bool) → ltb n 10 ≡ b → (j : ℕ) → n < 10 ^ suc j → ((i : ℕ) → n / 10 < 10 ^ suc i → places_from fuel (n / 10) ≤ suc i)
        → elim b [ true ↦ 1 | false ↦ suc (places_from fuel (n / 10)) ] ≤ suc j
    go true e j g ih = omega arith
    go false e zero g ih = absurd (omega (arith, ltb-false n 10 e))
    go false e (suc j) g ih = suc-le-suc (ih j (omega (arith, pow-suc 10 (suc j))))

pow-pos : (k : ℕ) → 1 ≤ 10 ^ k
pow-pos zero = omega arith
pow-pos (suc k) = omega (arith, pow-suc 10 k, pow-pos k)

-- a number from a power of ten on has more places than that
pub places-ge : (k fuel n : ℕ) → n ≤ fuel → 10 ^ k ≤ n → suc k ≤ places_from fuel n
unfolding places_from
places-ge zero zero n f h = omega arith
places-ge (suc k) zero n f h = absurd (omega (arith, pow-suc 10 k, pow-pos k))
places-ge zero (suc fuel) n f h = go (ltb n 10)
  where
    go : (b : Bool) → 1 ≤ elim b [ true ↦ 1 | false ↦ suc (places_from fuel (n / 10)) ]
    go true = omega arith
    go false = omega arith
places-ge (suc k) (suc fuel) n f h = go (ltb n 10) refl (places-ge k fuel (n / 10) (omega arith) (omega (arith, pow-suc 10 k)))
  where
    go : (b : Bool) → ltb n 10 ≡ b → suc k ≤ places_from fuel (n / 10) → suc (suc k) ≤ elim b [ true ↦ 1 | false ↦ suc (places_from fuel (n / 10)) ]
    go true e ih = absurd (omega (arith, ltb-true n 10 e, pow-suc 10 k, pow-pos k))
    go false e ih = suc-le-suc ih

-- between two powers of ten
pub places-at : (k n : ℕ) → 10 ^ k ≤ n → n < 10 * 10 ^ k → k + 1 ≡ places_from n n
places-at k n l h = omega (arith, places-ge k n n (omega arith) l, places-le k n n (omega (arith, pow-suc 10 k)))

pub length_decimal : (n : ℕ) → length (decimal n) ≡ places_from n n
unfolding decimal
length_decimal n = omega (arith, length_digits 10 (places_from n n) n [])
