-- What a text and its lines are held to, and the numbers of the refusals beyond it.
-- Assumes nothing.
use Rattle.std.specs.Prelude.{ℕ}

-- the widths that a line record has room for
abbrev pub max_levels : ℕ
max_levels = 16

-- what a line is held to
pub record LineLimits : Type 0 where
  -- open levels at most
  pub levels : ℕ
  -- the refusal of a level beyond them
  pub too_deep_number : ℕ

-- what a text is held to
pub record Limits : Type 0 where
  pub bytes : ℕ
  pub too_long_number : ℕ
  pub line : LineLimits

-- a number that a line beyond its limits is refused with
pub data LimitNumber (lim : LineLimits) : ℕ → Type 0 where
  deep_number : LimitNumber lim lim.too_deep_number

-- The barge's.

abbrev pub max_bytes : ℕ
max_bytes = 1_048_576

abbrev pub barge_line : LineLimits
barge_line = record { levels = max_levels; too_deep_number = 4 }

abbrev pub barge : Limits
barge = record { bytes = max_bytes; too_long_number = 1; line = barge_line }
