-- Which bytes a search in a line passes.
-- Assumes nothing.
use Rattle.std.specs.Prelude.{ℕ, Bool, not, eqb}

-- another byte than this one
abbrev pub is_other : (byte b : ℕ) → Bool
is_other byte b = not (eqb b byte)
