-- The number at the front of a text: its first byte decides whether there is one.
-- Assumes nothing.
use Prim.Native.Nat.{ℕ, ◌<◌}
use mathlib.Core.Path.{◌≡◌, refl}
use mathlib.Core.Bool.{true, false}
use mathlib.Core.List.{List, [], ◌∷◌}
use mathlib.Core.Option.{none, some}
use native.Mathlib.Omega.{arith}
use lib.ListN.{length, get_or}
use Rattle.rules.specs.Tables.{is_digit}
use Rattle.rules.specs.Cut.{scan_number}
use Rattle.rules.specs.Numbers.{begins_with_digit, number_parts}

pub no_bytes : (t : List ℕ) → length t ≡ 0 → number_parts t ≡ none
unfolding number_parts begins_with_digit
no_bytes [] h = refl
no_bytes (b ∷ t) h = absurd (omega arith)

pub no_digit : (t : List ℕ) → 0 < length t → is_digit (get_or t 0 0) ≡ false → number_parts t ≡ none
unfolding number_parts begins_with_digit
no_digit [] h e = absurd (omega arith)
no_digit (b ∷ t) h e = rw e

pub a_digit : (t : List ℕ) → 0 < length t → is_digit (get_or t 0 0) ≡ true → number_parts t ≡ some (scan_number t)
unfolding number_parts begins_with_digit
a_digit [] h e = absurd (omega arith)
a_digit (b ∷ t) h e = rw e
