-- The class of each byte, and the runs that it stands in, as tables.
-- Assumes nothing.
use Rattle.std.specs.Prelude.{ℕ, zero, suc, ◌/◌, ◌%◌, Bool, not, List}
use Rattle.laws.specs.Blocks.{table}
use Rattle.rules.specs.Lists.{bit}
use Rattle.rules.specs.Tables.{class_of}
use Rattle.rules.specs.Cut.{in_decimal, in_hex, in_word}
use Rattle.rules.specs.Line.{is_space}

-- the classes of the bytes 0 to 255
unfoldable pub class_table : List ℕ
class_table = table class_of 0 256

-- a byte of the run `which`: 0 a word, 1 hexadecimal and 2 decimal digits, each with `_`; 3 spaces
unfoldable pub reaches : (which b : ℕ) → Bool
reaches zero b = in_word b
reaches (suc zero) b = in_hex b
reaches (suc (suc zero)) b = in_decimal b
reaches (suc (suc (suc n))) b = is_space b

abbrev pub misses : (which b : ℕ) → Bool
misses which b = not (reaches which b)

-- whether a byte ends a run, 1 or 0: the bytes 0 to 255 for each of the four runs
unfoldable pub reach_table : List ℕ
reach_table = table (λ i. bit (misses (i / 256) (i % 256))) 0 1024
