-- Runs by masks: the lowest set bit stands where the run ends, and a mask of 0 is a run through all that it looks at.
-- Assumes nothing.
use Prim.Native.Nat.{ℕ, zero, suc, ◌+◌, ◌*◌, ◌/◌, ◌%◌, ◌≤◌, ◌<◌}
use mathlib.Core.Path.{◌≡◌, refl, sym, ap, ◌∙◌}
use mathlib.Core.Bool.{Bool, true, false, not}
use mathlib.Core.List.{List, [], ◌∷◌}
use native.Mathlib.Omega.{arith}
use native.Mathlib.Nat.{le_of_suc-le-suc, zero-add, suc-add}
use mir.Val.{bool_byte}
use lib.Count.{under, count_trailing_zeros}
use lib.ListN.{length, get_or, drop, length-drop}
use lib.Seq.{drop-cons, drop-drop}
use Rattle.rules.specs.Lists.{bit, run}
use Rattle.rules.proofs.ListLaws.{run_true, run_false}
use Rattle.runs.specs.Masks.{mask_of}

-- one element more; j is the next index
pub mask_cons : (f : ℕ → Bool) (n : ℕ) (l : List ℕ) (i j : ℕ) → i < length l → j ≡ suc i → mask_of f (suc n) (drop i l) ≡ bit (f (get_or l i 0)) + 2 * mask_of f n (drop j l)
unfolding mask_of
mask_cons f n l i j h e = rw (e, drop-cons l i 0 h)

-- a test's answer as the code has it
pub as_bit : (b : Bool) → bool_byte b ≡ bit b
as_bit true = refl
as_bit false = refl

pub bit_le : (b : Bool) → bit b ≤ 1
bit_le true = omega arith
bit_le false = omega arith

mask_none : (f : ℕ → Bool) (s : List ℕ) → mask_of f 0 s ≡ 0
unfolding mask_of
mask_none f s = refl

-- four bits
pub four_bits : (f : ℕ → Bool) (l : List ℕ) (i : ℕ) → i + 4 ≤ length l
    → bit (f (get_or l i 0)) + 2 * bit (f (get_or l (i + 1) 0)) + 4 * bit (f (get_or l (i + 2) 0)) + 8 * bit (f (get_or l (i + 3) 0)) ≡ mask_of f 4 (drop i l)
four_bits f l i h =
    omega (
      arith,
      mask_cons f 3 l i (i + 1) (omega arith) (omega arith),
      mask_cons f 2 l (i + 1) (i + 2) (omega arith) (omega arith),
      mask_cons f 1 l (i + 2) (i + 3) (omega arith) (omega arith),
      mask_cons f 0 l (i + 3) (i + 4) (omega arith) (omega arith),
      mask_none f (drop (i + 4) l),
    )

-- four elements more; j is the next index
pub four_more : (f : ℕ → Bool) (n : ℕ) (l : List ℕ) (i j : ℕ) → i + 4 ≤ length l → j ≡ i + 4
    → mask_of f (suc (suc (suc (suc n)))) (drop i l) ≡ mask_of f 4 (drop i l) + 16 * mask_of f n (drop j l)
four_more f n l i j h e =
    omega (
      arith,
      four_bits f l i h,
      mask_cons f (suc (suc (suc n))) l i (i + 1) (omega arith) (omega arith),
      mask_cons f (suc (suc n)) l (i + 1) (i + 2) (omega arith) (omega arith),
      mask_cons f (suc n) l (i + 2) (i + 3) (omega arith) (omega arith),
      mask_cons f n l (i + 3) j (omega arith) (omega arith),
    )

pub mask_small : (f : ℕ → Bool) (l : List ℕ) (i : ℕ) → i + 4 ≤ length l → mask_of f 4 (drop i l) < 16
mask_small f l i h =
    omega (
      arith,
      four_bits f l i h,
      bit_le (f (get_or l i 0)),
      bit_le (f (get_or l (i + 1) 0)),
      bit_le (f (get_or l (i + 2) 0)),
      bit_le (f (get_or l (i + 3) 0)),
    )

-- the digits of a mask
low : (b : Bool) (m : ℕ) → (bit b + 2 * m) % 2 ≡ bit b
low true m = omega arith
low false m = omega arith

high : (b : Bool) (m : ℕ) → (bit b + 2 * m) / 2 ≡ m
high true m = omega arith
high false m = omega arith

-- a run of the elements that the mask's test does not hold of
module _ (f g : ℕ → Bool) (other : (x : ℕ) → g x ≡ not (f x)) where
  -- it ends at the lowest set bit
  pub run-to : (n k : ℕ) (s : List ℕ) → n ≤ k → 0 < mask_of f n s → count_trailing_zeros k (mask_of f n s) ≡ run g s
  unfolding mask_of count_trailing_zeros
  run-to zero k s h some = absurd (omega arith)
  run-to (suc n) zero s h some = absurd (omega arith)
  run-to (suc n) (suc k) [] h some = absurd (omega arith)
  run-to (suc n) (suc k) (x ∷ s) h some = go (f x) refl some (run-to n k s (le_of_suc-le-suc h))
    where
      m : ℕ
      m = mask_of f n s

      go : (b : Bool) → f x ≡ b → 0 < bit b + 2 * m → (0 < m → count_trailing_zeros k m ≡ run g s)
          → under ((bit b + 2 * m) % 2) (count_trailing_zeros k ((bit b + 2 * m) / 2)) ≡ run g (x ∷ s)
      go true e p rest = rw (low true m) (sym (run_false g x s (other x ∙ ap not e)))
      go false e p rest = rw (low false m, high false m) (ap suc (rest (omega arith)) ∙ sym (run_true g x s (other x ∙ ap not e)))

  -- no bit is set
  pub run_past : (n : ℕ) (s : List ℕ) → mask_of f n s ≡ 0 → n ≤ length s → run g s ≡ n + run g (drop n s)
  unfolding mask_of
  run_past zero s e h = sym (zero-add (run g s))
  run_past (suc n) [] e h = absurd (omega arith)
  run_past (suc n) (x ∷ s) e h = go (f x) refl e (λ q. run_past n s q (le_of_suc-le-suc h))
    where
      go : (b : Bool) → f x ≡ b → bit b + 2 * mask_of f n s ≡ 0 → (mask_of f n s ≡ 0 → run g s ≡ n + run g (drop n s)) → run g (x ∷ s) ≡ suc n + run g (drop n s)
      go true q z rest = absurd (omega arith)
      go false q z rest = run_true g x s (other x ∙ ap not q) ∙ ap suc (rest (omega arith)) ∙ sym (suc-add n (run g (drop n s)))

  -- A turn at index i of a line, by the mask m of its next n elements; `whole` is where the run ends.
  module _ (line : List ℕ) (i n : ℕ) {m whole : ℕ} (is : m ≡ mask_of f n (drop i line)) (inv : i + run g (drop i line) ≡ whole) where
    pub run-found : n ≤ 32 → (m ≡ 0 → ⊥) → i + count_trailing_zeros 32 m ≡ whole
    run-found h some =
        let e = run-to n 32 (drop i line) h (omega arith) in
        ap (λ (k : ℕ). i + count_trailing_zeros 32 k) is ∙ ap (λ (k : ℕ). i + k) e ∙ inv

    pub run-left : i + n ≤ length line → m ≡ 0 → i + n + run g (drop (i + n) line) ≡ whole
    run-left h z = omega (arith, run_past n (drop i line) (sym is ∙ z) (omega (arith, length-drop i line)), ap (run g) (drop-drop n i line))
