-- UTF-8, by the Unicode Standard, Table 3-7.
-- Assumes nothing.
use Rattle.std.specs.Prelude.{ℕ, zero, suc, ◌+◌, ◌*◌, ◌-◌, ◌/◌, ◌%◌, pred, ◌≡◌, Bool, true, false, ◌&&◌, List, [], ◌∷◌, ltb, eqb, length, take, drop, if◌then◌else◌}
use Rattle.std.proofs.Math.Option.{Option, none, some}
use Rattle.rules.specs.Lists.{within, run, concat, list_rules}

pub record Range : Type 0 where
  pub lo : ℕ
  pub hi : ℕ

infix 70 ◌to◌
abbrev pub ◌to◌ : ℕ → ℕ → Range
lo to hi = record { lo = lo; hi = hi }

-- a row of the table: the range of the first byte, and those of the bytes that follow
pub record Row : Type 0 where
  pub first : Range
  pub later : List Range

abbrev pub row : Range → List Range → Row
row f r = record { first = f; later = r }

abbrev pub continuation : Range
continuation = 0x80 to 0xBF

-- Table 3-7
unfoldable pub table : List Row
table =
    row (0x00 to 0x7F) []
    ∷ row (0xC2 to 0xDF) (continuation ∷ [])
    ∷ row (0xE0 to 0xE0) (0xA0 to 0xBF ∷ continuation ∷ [])
    ∷ row (0xE1 to 0xEC) (continuation ∷ continuation ∷ [])
    ∷ row (0xED to 0xED) (0x80 to 0x9F ∷ continuation ∷ [])
    ∷ row (0xEE to 0xEF) (continuation ∷ continuation ∷ [])
    ∷ row (0xF0 to 0xF0) (0x90 to 0xBF ∷ continuation ∷ continuation ∷ [])
    ∷ row (0xF1 to 0xF3) (continuation ∷ continuation ∷ continuation ∷ [])
    ∷ row (0xF4 to 0xF4) (0x80 to 0x8F ∷ continuation ∷ continuation ∷ [])
    ∷ []

-- the ranges of the bytes that follow a first byte, by the row that has it
unfoldable pub following : List Row → ℕ → Option (List Range)
following [] b = none
following (r ∷ rs) b = if within r.first.lo r.first.hi b then some r.later else following rs b

-- the text begins with bytes in these ranges
unfoldable pub in_ranges : List Range → List ℕ → Bool
in_ranges [] s = true
in_ranges (r ∷ rs) [] = false
in_ranges (r ∷ rs) (b ∷ s) = within r.lo r.hi b && in_ranges rs s

unfoldable pub size_by : Option (List Range) → List ℕ → ℕ
size_by none s = 0
size_by (some rs) s = if in_ranges rs s then suc (length rs) else 0

-- the length of the scalar that a text begins with; 0 where there is none
unfoldable pub scalar_size : List ℕ → ℕ
scalar_size [] = 0
scalar_size (b ∷ s) = size_by (following table b) s

-- a text is well-formed if it is one scalar after another
pub data WellFormed : List ℕ → Type 0 where
  nil : WellFormed []
  scalar : {b : ℕ} {s : List ℕ} (n : ℕ) → scalar_size (b ∷ s) ≡ suc n → WellFormed (drop n s) → WellFormed (b ∷ s)

unfoldable pub scalar_step : (size : ℕ) → List ℕ → (ℕ → List (List ℕ)) → List (List ℕ)
scalar_step zero s next = []
scalar_step (suc n) s next = take (suc n) s ∷ next n

-- the scalars of a text, up to the first byte that begins none; `skip` bytes of a scalar are still to be passed
unfoldable pub scalars_from : (skip : ℕ) → List ℕ → List (List ℕ)
scalars_from skip [] = []
scalars_from (suc skip) (b ∷ s) = scalars_from skip s
scalars_from zero (b ∷ s) = scalar_step (scalar_size (b ∷ s)) (b ∷ s) (λ skip. scalars_from skip s)

unfoldable pub scalars_of : List ℕ → List (List ℕ)
scalars_of t = scalars_from 0 t

-- the length of the longest well-formed prefix
unfoldable pub well_formed_prefix : List ℕ → ℕ
well_formed_prefix t = length (concat (scalars_of t))

-- Values.

-- six bits of each later byte
unfoldable pub six_bits : ℕ → List ℕ → ℕ
six_bits v [] = v
six_bits v (b ∷ s) = six_bits (v * 64 + (b - 0x80)) s

-- the bits of the first byte of a scalar of this size
unfoldable pub first_bits : (size b : ℕ) → ℕ
first_bits size b =
    if ltb size 2 then b else if ltb size 3 then b - 0xC0 else if ltb size 4 then b - 0xE0 else b - 0xF0

-- the value of the scalar that a text begins with
unfoldable pub scalar_value : List ℕ → ℕ
scalar_value [] = 0
scalar_value (b ∷ s) = six_bits (first_bits (scalar_size (b ∷ s)) b) (take (pred (scalar_size (b ∷ s))) s)

unfoldable pub later_byte : ℕ → ℕ
later_byte v = 0x80 + v % 64

-- the bytes of a scalar with this value: six bits in each later byte
unfoldable pub encode : ℕ → List ℕ
encode v =
    if ltb v 0x80 then v ∷ []
    else if ltb v 0x800 then (0xC0 + v / 64) ∷ later_byte v ∷ []
    else if ltb v 0x10000 then (0xE0 + v / 64 / 64) ∷ later_byte (v / 64) ∷ later_byte v ∷ []
    else (0xF0 + v / 64 / 64 / 64) ∷ later_byte (v / 64 / 64) ∷ later_byte (v / 64) ∷ later_byte v ∷ []

-- Leading one bits.

-- the bits of a byte, the highest first
unfoldable pub bits_of : ℕ → List ℕ
bits_of b =
    (b / 128) % 2 ∷ (b / 64) % 2 ∷ (b / 32) % 2 ∷ (b / 16) % 2 ∷ (b / 8) % 2 ∷ (b / 4) % 2 ∷ (b / 2) % 2 ∷ b % 2 ∷ []

unfoldable pub leading_ones : ℕ → ℕ
leading_ones b = run (eqb 1) (bits_of b)

-- opens the definitions above, and those of the modules below, where a proof says `unfolding utf8_rules`
unfoldable pub utf8_rules : Unit {0}
unfolding table following in_ranges size_by scalar_size scalar_step scalars_from scalars_of well_formed_prefix six_bits first_bits scalar_value later_byte
    encode bits_of leading_ones list_rules
utf8_rules = tt
