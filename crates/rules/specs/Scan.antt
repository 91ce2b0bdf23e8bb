-- What the program `scan` prints for the bytes of its input.
-- Assumes nothing.
use Rattle.std.specs.Prelude.{ℕ, zero, suc, List, [], ◌∷◌, ◌++◌, ltb, length, get_or, drop, if◌then◌else◌}
use Rattle.rules.specs.Lists.{ascii, concat}
use Rattle.rules.specs.Replies.{too_long, malformed, lexical, at_line}
use Rattle.rules.specs.Records.{token_size, Header, FreshReading, recorded, unread, fresh_reading}
use Rattle.rules.specs.Report.{decimal, message}

-- the most bytes that it reads
abbrev pub scan_bytes : ℕ
scan_bytes = 512

unfoldable pub page_row : Header → List ℕ
page_row h =
    concat
    (ascii "(page (bytes " ∷ decimal h.n ∷ ascii ") (lines " ∷ decimal h.m ∷ ascii ") (tokens " ∷ decimal h.k
    ∷ ascii "))\n" ∷ [])

-- of a token's words: kind; position, line, column; length
unfoldable pub token_row : List ℕ → List ℕ
token_row ws =
    concat
    (ascii "(tok " ∷ decimal (get_or ws 0 0) ∷ ascii " (at " ∷ decimal (get_or ws 1 0) ∷ ascii " " ∷ decimal (get_or ws 3 0) ∷ ascii " "
    ∷ decimal (get_or ws 4 0) ∷ ascii ") (len " ∷ decimal (get_or ws 2 0) ∷ ascii "))\n" ∷ [])

-- of k tokens
unfoldable pub token_rows : (k : ℕ) → List ℕ → List ℕ
token_rows zero ws = []
token_rows (suc k) ws = token_row ws ++ token_rows k (drop token_size ws)

unfoldable pub refused_row : (number : ℕ) → List ℕ
refused_row number = concat (ascii "(refused " ∷ decimal number ∷ ascii ")\n" ∷ [])

-- a failure prints its message, another refusal its number
unfoldable pub printed : List ℕ → FreshReading → List ℕ
printed t (recorded r) = page_row r.head ++ token_rows r.head.k r.tokens
printed t (unread (lexical f)) = message t f ++ ascii "\n"
printed t (unread (too_long number n)) = refused_row number
printed t (unread (malformed n)) = refused_row 2
printed t (unread (at_line number l)) = refused_row number

unfoldable pub scan_output : List ℕ → List ℕ
scan_output t = if ltb scan_bytes (length t) then refused_row 1 else printed t (fresh_reading t)

-- opens the definitions above where a proof says `unfolding scan_rules`
unfoldable pub scan_rules : Unit {0}
unfolding page_row token_row token_rows refused_row printed scan_output
scan_rules = tt
