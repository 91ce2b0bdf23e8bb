-- Keywords as rows of numbers: length, kind and nine bytes, zeros behind the spelling.
-- Assumes nothing.
use Rattle.std.specs.Prelude.{ℕ, ◌%◌, Bool, true, false, List, [], ◌∷◌, ◌++◌, map, ltb, eqb, length, get_or, take, replicate}
use Rattle.laws.specs.Blocks.{blocks, table}
use Rattle.rules.specs.Lists.{concat}
use Rattle.rules.specs.Tables.{Spelling, keywords}

-- a keyword as a row
unfoldable pub row_words : Spelling → List ℕ
row_words k = take 11 (length k.bytes ∷ k.kind ∷ (k.bytes ++ replicate 9 0))

-- Groups.

unfoldable pub keep : Bool → Spelling → List Spelling → List Spelling
keep true k ks = k ∷ ks
keep false k ks = ks

-- the spellings that pass the test
unfoldable pub only : (Spelling → Bool) → List Spelling → List Spelling
only f [] = []
only f (k ∷ ks) = keep (f k) k (only f ks)

-- Keywords, grouped by first letter.

-- the last five bits of a word's first byte: large and small letters have the same
abbrev pub letter_of : List ℕ → ℕ
letter_of w = get_or w 0 0 % 32

unfoldable pub of_letter : ℕ → List Spelling → List Spelling
of_letter x ks = only (λ k. eqb (letter_of k.bytes) x) ks

-- the row at which the spellings of this letter begin
unfoldable pub keyword_start : ℕ → ℕ
keyword_start x = length (only (λ k. ltb (letter_of k.bytes) x) keywords)

-- the rows, then where those of each letter begin, and where the last ones end
unfoldable pub keyword_table : List ℕ
keyword_table = concat (map row_words (blocks (λ x. of_letter x keywords) 0 32)) ++ table keyword_start 0 33

-- opens the definitions above where a proof says `unfolding row_rules`
unfoldable pub row_rules : Unit {0}
unfolding row_words keep only of_letter keyword_start keyword_table
row_rules = tt
