-- Scalars by their length, and a detail's text.
-- Assumes nothing.
use Prim.Native.Nat.{ℕ, pred, ◌/◌, ◌≤◌, ◌<◌, ◌+◌}
use mathlib.Core.Path.{◌≡◌, refl}
use mathlib.Core.List.{List, [], ◌∷◌, ◌++◌}
use native.Mathlib.Omega.{arith}
use borrow.Author.Tests.{lt-ltb, le-ltb}
use Rattle.std.proofs.lemmas.List.{get_or_past}
use Rattle.rules.specs.Lists.{ascii}
use Rattle.rules.specs.Utf8.{later_byte, encode}
use Rattle.rules.specs.Failure.{Shows, details, detail_of}
use Rattle.rules.specs.Report.{shown, detail_text}
use Rattle.details.specs.Details.{number_of}
use Rattle.details.specs.declared.Detail.{Detail}
use Rattle.details.specs.declared.Detail.TheVariants.{UnexpectedCharacter, ExpectedAnd, UnterminatedString, BadIndent, Unterminated, Empty, EscapeAbove, ExpectedHexDigit, UnknownEscape, ControlCharacter, NonAscii, ExpectedQuote}

-- Scalars, by their length.

pub scalar-one : (v : ℕ) → v < 0x80 → v ∷ [] ≡ encode v
unfolding encode
scalar-one v h = rw (lt-ltb v 0x80 h)

pub scalar-two : (v b : ℕ) → 0x80 ≤ v → v < 0x800 → b ≡ later_byte v → (0xC0 + v / 64) ∷ b ∷ [] ≡ encode v
unfolding encode
scalar-two v b l h e = rw (le-ltb v 0x80 l, lt-ltb v 0x800 h) (λ i. (0xC0 + v / 64) ∷ e i ∷ [])

pub scalar_three : (v b c : ℕ) → 0x800 ≤ v → v < 0x10000 → b ≡ later_byte (v / 64) → c ≡ later_byte v → (0xE0 + v / 64 / 64) ∷ b ∷ c ∷ [] ≡ encode v
unfolding encode
scalar_three v b c l h e f = rw (le-ltb v 0x80 (omega arith), le-ltb v 0x800 l, lt-ltb v 0x10000 h) (λ i. (0xE0 + v / 64 / 64) ∷ e i ∷ f i ∷ [])

pub scalar_four : (v b c d : ℕ) → 0x10000 ≤ v → b ≡ later_byte (v / 64 / 64) → c ≡ later_byte (v / 64) → d ≡ later_byte v
    → (0xF0 + v / 64 / 64 / 64) ∷ b ∷ c ∷ d ∷ [] ≡ encode v
unfolding encode
scalar_four v b c d l e f g =
    rw (le-ltb v 0x80 (omega arith), le-ltb v 0x800 (omega arith), le-ltb v 0x10000 l) (λ i. (0xF0 + v / 64 / 64 / 64) ∷ e i ∷ f i ∷ g i ∷ [])

-- no detail has a number above 12
pub none-above : (d c : ℕ) → 12 < d → [] ≡ detail_text (detail_of d) c
unfolding detail_text details detail_of shown
none-above d c h =
    let past : 12 ≤ pred d = omega arith in
    rw (get_or_past details (pred d) _ past) refl

-- the other details end with what they show
pub back_none : (d : Detail) → (d ≡ UnexpectedCharacter → ⊥) → (d ≡ ExpectedHexDigit → ⊥) → (d ≡ UnknownEscape → ⊥) → (d ≡ ControlCharacter → ⊥) → (d ≡ NonAscii → ⊥) → (d ≡ ExpectedQuote → ⊥) → [] ≡ ascii (detail_of (number_of d)).back
unfolding details detail_of
back_none UnexpectedCharacter n n1 n2 n3 n4 n5 = absurd (n refl)
back_none ExpectedAnd n0 n1 n2 n3 n4 n5 = refl
back_none UnterminatedString n0 n1 n2 n3 n4 n5 = refl
back_none BadIndent n0 n1 n2 n3 n4 n5 = refl
back_none Unterminated n0 n1 n2 n3 n4 n5 = refl
back_none Empty n0 n1 n2 n3 n4 n5 = refl
back_none EscapeAbove n0 n1 n2 n3 n4 n5 = refl
back_none ExpectedHexDigit n0 n n2 n3 n4 n5 = absurd (n refl)
back_none UnknownEscape n0 n1 n n3 n4 n5 = absurd (n refl)
back_none ControlCharacter n0 n1 n2 n n4 n5 = absurd (n refl)
back_none NonAscii n0 n1 n2 n3 n n5 = absurd (n refl)
back_none ExpectedQuote n0 n1 n2 n3 n4 n = absurd (n refl)

-- the three parts of a detail's text
pub detail_parts : (d : Detail) (n c : ℕ) (x : List ℕ) (s : Shows) (z : List ℕ) → number_of d ≡ n → x ≡ ascii (detail_of (number_of d)).front → s ≡ (detail_of (number_of d)).shows
    → z ≡ ascii (detail_of (number_of d)).back → detail_text (detail_of n) c ≡ x ++ (shown s c ++ z)
unfolding detail_text
detail_parts d n c x s z e f g h = rw (← e, f, g, h) refl
