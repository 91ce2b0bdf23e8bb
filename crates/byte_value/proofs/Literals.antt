-- A byte literal, less its quotes.
-- Assumes nothing.
use Prim.Native.Nat.{ℕ, suc, ◌-◌, ◌≤◌, ◌<◌}
use mathlib.Core.Path.{◌≡◌, refl}
use mathlib.Core.Bool.{Bool, true, false, ◌&&◌}
use mathlib.Core.List.{List, [], ◌∷◌}
use mathlib.Core.Option.{none}
use native.Mathlib.Omega.{arith}
use lib.Dec.{eqb}
use lib.ListN.{length, get_or, take, drop}
use Rattle.std.specs.Prelude.{if◌then◌else◌}
use Rattle.rules.specs.Lists.{begins, last_d}
use Rattle.rules.specs.ByteValue.{inner_value, closed_value, literal_value}

last-at : (s : List ℕ) (x : ℕ) → last_d s x ≡ get_or (x ∷ s) (length s) 0
unfolding last_d
last-at [] x = refl
last-at (y ∷ s) x = last-at s y

-- two bytes are the opening quote at most
pub literal_short : (t : List ℕ) → length t < 3 → literal_value t ≡ none
unfolding literal_value closed_value begins last_d
literal_short [] h = refl
literal_short (a ∷ []) h = go (eqb 98 a)
  where
    go : (x : Bool) → (if x && false then closed_value (drop 2 (a ∷ [])) else none) ≡ none
    go true = refl
    go false = refl
literal_short (a ∷ b ∷ []) h = go (eqb 98 a && (eqb 39 b && true))
  where
    go : (x : Bool) → (if x then closed_value [] else none) ≡ none
    go true = refl
    go false = refl
literal_short (a ∷ b ∷ c ∷ t) h = absurd (omega arith)

-- a longer text is a literal where both quotes are there
pub literal_long : (t : List ℕ) → 3 ≤ length t
    → literal_value t
    ≡ (if eqb 98 (get_or t 0 0) && (eqb 39 (get_or t 1 0) && eqb (get_or t (length t - 1) 0) 39) then inner_value (take (length t - 1 - 2) (drop 2 t)) else none)
unfolding literal_value closed_value begins last_d
literal_long [] h = absurd (omega arith)
literal_long (a ∷ []) h = absurd (omega arith)
literal_long (a ∷ b ∷ []) h = absurd (omega arith)
literal_long (a ∷ b ∷ c ∷ s) h =
    let last : length (a ∷ b ∷ c ∷ s) - 1 ≡ suc (suc (length s)) = omega arith in
    let inner : length (a ∷ b ∷ c ∷ s) - 1 - 2 ≡ length s = omega arith in
    rw (inner, last, ← last-at s c) (go (eqb 98 a) (eqb 39 b))
  where
    go : (x y : Bool) → (if x && (y && true) then closed_value (c ∷ s) else none) ≡ (if x && (y && eqb (last_d s c) 39) then inner_value (take (length s) (c ∷ s)) else none)
    go true true = refl
    go true false = refl
    go false y = refl
