-- Table 3-7 as a scan by leading ones meets it: what follows a first byte, by comparisons.
-- Assumes nothing.
use Prim.Native.Nat.{ℕ, ◌<◌}
use mathlib.Core.Path.{◌≡◌, refl, ap}
use mathlib.Core.Bool.{Bool, true, false, ◌&&◌, false≢true}
use mathlib.Core.List.{List, [], ◌∷◌}
use mathlib.Core.Option.{Option, none, some}
use lib.Dec.{T, ltb, eqb}
use borrow.Author.Tests.{eqb-true}
use Rattle.laws.proofs.Below.{at}
use Rattle.std.specs.Prelude.{if◌then◌else◌}
use Rattle.rules.proofs.ListLaws.{and_left, and_right}
use Rattle.rules.specs.Utf8.{Range, ◌to◌, continuation, table, following}

-- the second byte's range
pub second : ℕ → Range
second b =
    if eqb b 0xE0 then 0xA0 to 0xBF else if eqb b 0xED then 0x80 to 0x9F
    else if eqb b 0xF0 then 0x90 to 0xBF else if eqb b 0xF4 then 0x80 to 0x8F else continuation

pub by_first : ℕ → Option (List Range)
by_first b =
    if ltb b 0x80 then some []
    else if ltb b 0xC2 then none
    else if ltb b 0xE0 then some (continuation ∷ [])
    else if ltb b 0xF0 then some (second b ∷ continuation ∷ [])
    else if ltb b 0xF5 then some (second b ∷ continuation ∷ continuation ∷ [])
    else none

same_ranges : List Range → List Range → Bool
same_ranges [] [] = true
same_ranges [] (s ∷ ss) = false
same_ranges (r ∷ rs) [] = false
same_ranges (r ∷ rs) (s ∷ ss) = eqb r.lo s.lo && (eqb r.hi s.hi && same_ranges rs ss)

same_row : Option (List Range) → Option (List Range) → Bool
same_row none none = true
same_row none (some ss) = false
same_row (some rs) none = false
same_row (some rs) (some ss) = same_ranges rs ss

ranges_eq : (rs ss : List Range) → same_ranges rs ss ≡ true → rs ≡ ss
unfolding same_ranges
ranges_eq [] [] h = refl
ranges_eq [] (s ∷ ss) h = absurd (false≢true h)
ranges_eq (r ∷ rs) [] h = absurd (false≢true h)
ranges_eq (r ∷ rs) (s ∷ ss) h =
    let e : r.lo ≡ s.lo = eqb-true r.lo s.lo (and_left (eqb r.lo s.lo) _ h) in
    let t : (eqb r.hi s.hi && same_ranges rs ss) ≡ true = and_right (eqb r.lo s.lo) _ h in
    let f : r.hi ≡ s.hi = eqb-true r.hi s.hi (and_left (eqb r.hi s.hi) _ t) in
    let i : rs ≡ ss = ranges_eq rs ss (and_right (eqb r.hi s.hi) _ t) in
    λ j. record { lo = e j; hi = f j } ∷ i j

row_eq : (x y : Option (List Range)) → same_row x y ≡ true → x ≡ y
unfolding same_row
row_eq none none h = refl
row_eq none (some ss) h = absurd (false≢true h)
row_eq (some rs) none h = absurd (false≢true h)
row_eq (some rs) (some ss) h = ap {B = Option (List Range)} some (ranges_eq rs ss h)

T_true : (b : Bool) → T b → b ≡ true
T_true true t = refl
T_true false t = absurd t

agree : ℕ → Bool
agree b = same_row (following table b) (by_first b)

-- by one test over the 256 bytes
pub following_eq : (b : ℕ) → b < 256 → following table b ≡ by_first b
unfolding agree same_row same_ranges by_first second following table
following_eq b h = row_eq (following table b) (by_first b) (T_true (agree b) (at agree 256 tt b h))
