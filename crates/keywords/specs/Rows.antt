-- Rows of a table read back as spellings.
-- Assumes nothing.
use Rattle.std.specs.Prelude.{ℕ, ◌+◌, ◌*◌, List, get_or, take, drop}
use Rattle.laws.specs.Blocks.{table}
use Rattle.rules.specs.Tables.{Spelling}

unfoldable pub row_at : List ℕ → ℕ → Spelling
row_at t i = record { bytes = take (get_or t (11 * i) 0) (drop (11 * i + 2) t); kind = get_or t (11 * i + 1) 0 }

-- the rows from i on, n of them
unfoldable pub rows_from : List ℕ → (i n : ℕ) → List Spelling
rows_from t i n = table (row_at t) i n
