-- Runs by the table: a turn of the loop, and the runs of words, digits and spaces.
-- Assumes nothing.
use Prim.Native.Nat.{ℕ, ◌+◌, ◌≤◌, ◌<◌}
use mathlib.Core.Path.{◌≡◌, refl, sym, ◌∙◌}
use mathlib.Core.Bool.{Bool, true, false, not}
use mathlib.Core.List.{List}
use native.Mathlib.Omega.{arith}
use lib.ListN.{length, get_or, drop, length-drop}
use Rattle.rules.specs.Lists.{bit, run}
use Rattle.rules.specs.Cut.{in_decimal, in_hex, in_word}
use Rattle.rules.specs.Line.{is_space}
use Rattle.rules.proofs.ListLaws.{run-pass, run-stop, run-le}
use Rattle.tables.specs.Bytes.{reaches, misses}

pub missed : (which b : ℕ) → reaches which b ≡ not (misses which b)
missed which b = go (reaches which b)
  where
    go : (t : Bool) → t ≡ not (not t)
    go true = refl
    go false = refl

-- A turn at byte i of a line, by the bit of that byte; `whole` is where the run ends.

module _ (f : ℕ → Bool) (line : List ℕ) (i : ℕ) {m whole : ℕ} (h : i < length line) (is : m ≡ bit (not (f (get_or line i 0))))
    (inv : i + run f (drop i line) ≡ whole) where
  pub run-stops : (m ≡ 0 → ⊥) → i ≡ whole
  run-stops some = omega (arith, run-stop f line i h (go (f (get_or line i 0)) (λ z. some (is ∙ z))))
    where
      go : (b : Bool) → (bit (not b) ≡ 0 → ⊥) → b ≡ false
      go true n = absurd (n refl)
      go false n = refl

  pub run_goes : m ≡ 0 → i + 1 + run f (drop (i + 1) line) ≡ whole
  run_goes none = omega (arith, run-pass f line i h (go (f (get_or line i 0)) (sym is ∙ none)))
    where
      go : (b : Bool) → bit (not b) ≡ 0 → b ≡ true
      go true z = refl
      go false z = absurd (omega arith)

-- a run stays within its line
pub run_inside : (f : ℕ → Bool) (line : List ℕ) (at : ℕ) → at ≤ length line → at + run f (drop at line) ≤ length line
run_inside f line at h = omega (arith, run-le f (drop at line), length-drop at line)

-- The runs.

pub run-word : (s : List ℕ) → run (reaches 0) s ≡ run in_word s
unfolding reaches
run-word s = refl

pub run-hex : (s : List ℕ) → run (reaches 1) s ≡ run in_hex s
unfolding reaches
run-hex s = refl

pub run-decimal : (s : List ℕ) → run (reaches 2) s ≡ run in_decimal s
unfolding reaches
run-decimal s = refl

pub run_spaces : (s : List ℕ) → run (reaches 3) s ≡ run is_space s
unfolding reaches
run_spaces s = refl
