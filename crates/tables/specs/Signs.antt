-- Signs by their first two bytes: the code of a sign, and the tables of rows and columns.
-- Assumes nothing.
use Rattle.std.specs.Prelude.{ℕ, pred, ◌+◌, ◌*◌, ◌/◌, ◌%◌, not, List, [], ◌∷◌, ◌++◌, eqb, length, get_or, if◌then◌else◌}
use Rattle.laws.specs.Blocks.{table}
use Rattle.rules.specs.Lists.{ascii, elem, begins, run}
use Rattle.rules.specs.Tables.{Spelling, signs}

-- The code of a sign.

-- its kind, and 128 more for each byte beyond the first
unfoldable pub code_of : Spelling → ℕ
code_of k = k.kind + 128 * pred (length k.bytes)

-- that of the first spelling that the text begins with, otherwise 0
unfoldable pub code_in : List Spelling → List ℕ → ℕ
code_in [] s = 0
code_in (k ∷ ks) s = if begins k.bytes s then code_of k else code_in ks s

-- 1 for a comment
unfoldable pub sign_code : List ℕ → ℕ
sign_code s = if begins (ascii "//") s then 1 else code_in signs s

-- Rows and columns.

-- the first bytes of the signs that are longer than one byte, and of the comment
unfoldable pub first_bytes : List ℕ
first_bytes = ascii "!%&*+-./:<=>|"

-- their second bytes
unfoldable pub second_bytes : List ℕ
second_bytes = ascii "=>.:&|/"

-- where a byte stands in a list; the list's length where it does not
unfoldable pub place_of : ℕ → List ℕ → ℕ
place_of b xs = run (λ x. not (eqb b x)) xs

-- the code in a row and column, eight columns a row; in the last column for 0 in the place of every other byte
unfoldable pub pair_code : ℕ → ℕ
pair_code i = sign_code (get_or first_bytes (i / 8) 0 ∷ get_or second_bytes (i % 8) 0 ∷ [])

-- the columns of the bytes 0 to 255, then the codes
unfoldable pub sign_table : List ℕ
sign_table = table (λ b. place_of b second_bytes) 0 256 ++ table pair_code 0 104

-- by the first byte: the code, or 128 and eight times the row
unfoldable pub sign_index : ℕ → ℕ
sign_index b = if elem b first_bytes then 128 + 8 * place_of b first_bytes else sign_code (b ∷ [])

unfoldable pub sign_index_table : List ℕ
sign_index_table = table sign_index 0 256

-- opens the definitions above where a proof says `unfolding code_rules`
unfoldable pub code_rules : Unit {0}
unfolding code_of code_in sign_code first_bytes second_bytes place_of pair_code sign_table sign_index sign_index_table
code_rules = tt
