-- Records moved within their buffer.
-- Assumes nothing.
use Rattle.std.specs.Prelude.{ℕ, ◌+◌, ◌-◌, ◌*◌, ◌%◌, List, get_or, slice_index, slice_set}
use Rattle.laws.specs.Blocks.{blocks, table}
use Rattle.rules.specs.Records.{line_size, token_size}

-- how many values a word has
abbrev pub word_values : ℕ
word_values = 4_294_967_296

-- from the base `old` to the base `new`, in the arithmetic of words
unfoldable pub distance : (old new : ℕ) → ℕ
distance old new = (new + word_values - old % word_values) % word_values

-- a word moved by a distance
unfoldable pub shifted : (by : ℕ) → ℕ → ℕ
shifted by x = (x + by) % word_values

-- n words from index i on
unfoldable pub words : List ℕ → (i n : ℕ) → List ℕ
words ws i n = table (λ t. get_or ws (i + t) 0) 0 n

-- the record of `size` words at index i, its word a moved by d and its word b by e, the others kept
unfoldable pub moved_record : (size a b d e : ℕ) → List ℕ → (i : ℕ) → List ℕ
moved_record size a b d e ws i = slice_set (slice_set (words ws i size) a (shifted d (slice_index ws (i + a)))) b (shifted e (slice_index ws (i + b)))

-- n such records from record `from` on
abbrev pub moved_records : (size a b d e : ℕ) → List ℕ → (from n : ℕ) → List ℕ
moved_records size a b d e ws from n = blocks (λ j. moved_record size a b d e ws (size * (from + j))) 0 n

-- the token record at index i, its position moved by d and its line by e
abbrev pub moved_token : (d e : ℕ) → List ℕ → (i : ℕ) → List ℕ
moved_token = moved_record token_size 1 3

-- n token records from record `from` on, positions moved from p to p' and lines from l to l'
unfoldable pub moved_tokens : (p p' l l' : ℕ) → List ℕ → (from n : ℕ) → List ℕ
moved_tokens p p' l l' = moved_records token_size 1 3 (distance p p') (distance l l')

-- the line record at index i, its start moved by d and the number of its first token by e; the state is kept
abbrev pub moved_line : (d e : ℕ) → List ℕ → (i : ℕ) → List ℕ
moved_line = moved_record line_size 0 1

-- n line records from record `from` on, starts moved from p to p' and token numbers from k to k'
unfoldable pub moved_lines : (p p' k k' : ℕ) → List ℕ → (from n : ℕ) → List ℕ
moved_lines p p' k k' = moved_records line_size 0 1 (distance p p') (distance k k')
