-- Decimal digits: they are worth the number, and there are no more of them than it needs.
-- Assumes nothing.
use Prim.Native.Nat.{ℕ, zero, suc, ◌+◌, ◌-◌, ◌*◌, ◌/◌, ◌%◌, ◌^◌, ◌≤◌, ◌<◌}
use Prim.Native.Char.{code}
use mathlib.Core.Path.{◌≡◌, refl, sym, ap, ◌∙◌}
use mathlib.Core.Bool.{Bool, true, false}
use mathlib.Core.List.{List, [], ◌∷◌}
use native.Mathlib.Omega.{arith}
use native.Mathlib.Nat.{mul_assoc, pow-suc, suc_inj}
use lib.Dec.{ltb}
use borrow.Author.Tests.{ltb-true, ltb-false, lt-ltb}
use Rattle.rules.specs.Report.{digit, digits_in, places_from, decimal}

-- what decimal digits are worth, after a value
unfoldable pub worth_from : ℕ → List ℕ → ℕ
worth_from v [] = v
worth_from v (d ∷ ds) = worth_from (v * 10 + (d - code "0")) ds

digit_worth : (d : ℕ) → d < 10 → digit d - code "0" ≡ d
unfolding digit
digit_worth d h = rw (lt-ltb d 10 h) (omega arith)

pub digits_worth : (places n v : ℕ) (tail : List ℕ) → n < 10 ^ places → worth_from v (digits_in 10 places n tail) ≡ worth_from (v * 10 ^ places + n) tail
unfolding digits_in worth_from
digits_worth zero n v tail h = ap (λ (k : ℕ). worth_from k tail) (omega arith)
digits_worth (suc p) n v tail h =
    let less : n / 10 < 10 ^ p = omega (arith, pow-suc 10 p) in
    let last : digit (n % 10) - code "0" ≡ n % 10 = digit_worth (n % 10) (omega arith) in
    let more : v * 10 ^ suc p ≡ v * 10 ^ p * 10 = ap (λ (k : ℕ). v * k) (pow-suc 10 p) ∙ sym (mul_assoc v (10 ^ p) 10) in
    digits_worth p (n / 10) v (digit (n % 10) ∷ tail) less
    ∙ ap (λ (k : ℕ). worth_from k tail) (omega (arith, last, more))

-- as many places as the number needs: no fewer, and no leading zero
pub places-enough : (fuel n : ℕ) → n ≤ fuel → n < 10 ^ places_from fuel n
unfolding places_from
places-enough zero n h = omega arith
places-enough (suc fuel) n h = go (ltb n 10) refl (λ k. places-enough fuel (n / 10) k)
  where
    go : (b : Bool) → ltb n 10 ≡ b → (n / 10 ≤ fuel → n / 10 < 10 ^ places_from fuel (n / 10)) → n < 10 ^ elim b [ true ↦ 1 | false ↦ suc (places_from fuel (n / 10)) ]
    go true e ih = ltb-true n 10 e
    go false e ih = omega (arith, ltb-false n 10 e, ih (omega (arith, ltb-false n 10 e)), pow-suc 10 (places_from fuel (n / 10)))

pub places-least : (fuel n k : ℕ) → places_from fuel n ≡ suc (suc k) → 10 ^ suc k ≤ n
unfolding places_from
places-least zero n k h = absurd (omega arith)
places-least (suc fuel) n k h = go (ltb n 10) refl h (λ j e. places-least fuel (n / 10) j e)
  where
    least : (j : ℕ) → places_from fuel (n / 10) ≡ suc j → j ≡ k → ltb n 10 ≡ false → ((i : ℕ) → places_from fuel (n / 10) ≡ suc (suc i) → 10 ^ suc i ≤ n / 10) → 10 ^ suc k ≤ n
    least zero e q f ih = omega (arith, ltb-false n 10 f, ap (λ (i : ℕ). 10 ^ suc i) q)
    least (suc j) e q f ih = omega (arith, ih j e, pow-suc 10 (suc j), ap (λ (i : ℕ). 10 ^ suc i) q)

    go : (b : Bool) → ltb n 10 ≡ b → elim b [ true ↦ 1 | false ↦ suc (places_from fuel (n / 10)) ] ≡ suc (suc k)
        → ((i : ℕ) → places_from fuel (n / 10) ≡ suc (suc i) → 10 ^ suc i ≤ n / 10) → 10 ^ suc k ≤ n
    go true f e ih = absurd (omega arith)
    go false f e ih = least k (suc_inj e) refl f ih

-- a number's decimal digits are worth the number
pub decimal_worth : (n : ℕ) → worth_from 0 (decimal n) ≡ n
unfolding decimal worth_from
decimal_worth n = digits_worth (places_from n n) n 0 [] (places-enough n n (omega arith)) ∙ omega arith
