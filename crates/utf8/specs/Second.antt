-- The range of a scalar's second byte, by its first byte (the Unicode Standard, Table 3-7).
-- Assumes nothing.
use Rattle.std.specs.Prelude.{ℕ, ltb, eqb, if◌then◌else◌}

-- above every second byte where the first begins no scalar of two bytes or more
unfoldable pub lowest : ℕ → ℕ
lowest b =
    if eqb b 0xE0 then 0xA0 else if eqb b 0xF0 then 0x90
    else if ltb b 0xC2 then 0xFF else if ltb b 0xF5 then 0x80 else 0xFF

unfoldable pub highest : ℕ → ℕ
highest b = if eqb b 0xED then 0x9F else if eqb b 0xF4 then 0x8F else 0xBF
