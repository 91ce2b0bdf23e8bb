-- Lexical failures: their details, codes and records.
-- Assumes nothing.
use Rattle.std.specs.Prelude.{ℕ, suc, ◌+◌, pred, List, [], ◌∷◌, get_or}
use Prim.Native.String.{String}

-- what a detail shows of the scalar found: nothing, the scalar itself, or four capital hex digits
pub data Shows : Type 0 where
  nothing : Shows
  scalar : Shows
  hex_digits : Shows

-- a detail: the code (1 stands for E0001), and its text before and after what it shows
pub record Detail : Type 0 where
  pub code : ℕ
  pub front : String
  pub shows : Shows
  pub back : String

abbrev pub detail : ℕ → String → Shows → String → Detail
detail c f s b = record { code = c; front = f; shows = s; back = b }

-- the details in the document's order, numbered from 1
unfoldable pub details : List Detail
details =
    detail 1 "unexpected character '" scalar "'"
    ∷ detail 2 "expected '&&'" nothing ""
    ∷ detail 4 "unterminated string literal" nothing ""
    ∷ detail 101 "Bad Indent" nothing ""
    ∷ detail 1 "invalid byte literal: unterminated" nothing ""
    ∷ detail 1 "invalid byte literal: empty" nothing ""
    ∷ detail 1 "invalid byte literal: \\x escape above \\x7F is not ASCII" nothing ""
    ∷ detail 1 "invalid byte literal: expected hex digit, found '" scalar "'"
    ∷ detail 1 "invalid byte literal: unknown escape '\\" scalar "'"
    ∷ detail 1 "invalid byte literal: control character U+" hex_digits " must be escaped"
    ∷ detail 1 "invalid byte literal: non-ASCII character '" scalar "'"
    ∷ detail 1 "invalid byte literal: expected closing quote, found '" scalar "'"
    ∷ []

-- the detail of a number
unfoldable pub detail_of : ℕ → Detail
detail_of d = get_or details (pred d) (record { code = 0; front = ""; shows = nothing; back = "" })

abbrev pub unexpected_character : ℕ
unexpected_character = 1

abbrev pub expected_and : ℕ
expected_and = 2

abbrev pub unterminated_string : ℕ
unterminated_string = 3

abbrev pub bad_indent : ℕ
bad_indent = 4

abbrev pub unterminated : ℕ
unterminated = 5

abbrev pub empty : ℕ
empty = 6

abbrev pub escape_above : ℕ
escape_above = 7

abbrev pub expected_hex_digit : ℕ
expected_hex_digit = 8

abbrev pub unknown_escape : ℕ
unknown_escape = 9

abbrev pub control_character : ℕ
control_character = 10

abbrev pub non_ascii : ℕ
non_ascii = 11

abbrev pub expected_quote : ℕ
expected_quote = 12

-- a failure in a line: it stands at an offset, with a range of `size` bytes from there; `found` is the scalar that the detail shows, otherwise 0
pub record Failure : Type 0 where
  pub detail : ℕ
  pub found : ℕ
  pub at : ℕ
  pub size : ℕ

abbrev pub failure : (detail found at size : ℕ) → Failure
failure d c at n = record { detail = d; found = c; at = at; size = n }

-- the failure record; the range is from..to
pub record FailureRecord : Type 0 where
  pub code : ℕ
  pub detail : ℕ
  pub found : ℕ
  pub position : ℕ
  pub line : ℕ
  pub column : ℕ
  pub from : ℕ
  pub to : ℕ

-- of a failure in the line with this number, which starts at this byte
unfoldable pub failure_record : (start number : ℕ) → Failure → FailureRecord
failure_record p l f =
    record {
      code = (detail_of f.detail).code;
      detail = f.detail;
      found = f.found;
      position = p + f.at;
      line = l;
      column = suc f.at;
      from = p + f.at;
      to = p + f.at + f.size;
    }

-- opens the definitions above where a proof says `unfolding failure_rules`
unfoldable pub failure_rules : Unit {0}
unfolding details detail_of failure_record
failure_rules = tt
