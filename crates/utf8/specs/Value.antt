-- The bits of a scalar's first byte that belong to its value, by the scalar's length.
-- Assumes nothing.
use Rattle.std.specs.Prelude.{ℕ, ◌%◌, ltb, if◌then◌else◌}

unfoldable pub low_first : (size b : ℕ) → ℕ
low_first size b = if ltb size 2 then b else if ltb size 3 then b % 32 else if ltb size 4 then b % 16 else b % 8
