-- What a sign's code says, the column of a text, and the codes of longer signs.
-- Assumes nothing.
use Rattle.std.specs.Prelude.{ℕ, suc, ◌/◌, ◌%◌, Bool, true, false, List, eqb, get_or, if◌then◌else◌}
use Rattle.rules.specs.Lists.{ascii}
use Rattle.rules.specs.Failure.{failure, expected_and}
use Rattle.rules.specs.Cut.{Cut, comment, token, fails}
use Rattle.tables.specs.Signs.{sign_code, second_bytes, place_of}

-- what is cut by a code; 0 is a lone `&`
unfoldable pub code_cut : ℕ → Cut
code_cut c =
    if eqb c 0 then fails (failure expected_and 0 0 1)
    else if eqb c 1 then comment
    else token (c % 128) (suc (c / 128))

-- the column of the byte that a text begins with; an empty text has that of 0, which is no second byte
abbrev pub column_of : List ℕ → ℕ
column_of s = place_of (get_or s 0 0) second_bytes

-- the code of a sign of two bytes that a `=` follows
unfoldable pub longer : ℕ → ℕ
longer c =
    if eqb c (sign_code (ascii "..")) then sign_code (ascii "..=")
    else if eqb c (sign_code (ascii "&&")) then sign_code (ascii "&&=")
    else if eqb c (sign_code (ascii "||")) then sign_code (ascii "||=")
    else c

-- the same, by whether a `=` follows
unfoldable pub longer_by : Bool → ℕ → ℕ
longer_by true c = longer c
longer_by false c = c
