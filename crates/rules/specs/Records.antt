-- The records of a text, and its fresh reading.
-- Assumes nothing.
use Rattle.std.specs.Prelude.{ℕ, suc, ◌+◌, ◌*◌, ◌≡◌, List, [], ◌∷◌, ◌++◌, length, take, replicate, if◌then◌else◌}
use Rattle.std.proofs.Math.Option.{Option}
use Rattle.rules.specs.Lists.{bit}
use Rattle.rules.specs.Failure.{failure_record}
use Rattle.rules.specs.Line.{State, initial, Token, dedents, Halt, failed, over_limit}
use Rattle.rules.specs.Reading.{lines_of, Entry, entry, Reading, reads, halts, read_from, byte_sum, token_sum, reading_rules}
use Rattle.rules.specs.Limits.{max_levels, LineLimits, Limits, barge}
use Rattle.rules.specs.Replies.{Unread, lexical, at_line, Refusal, lines_buffer, tokens_buffer, is_too_long, too_long_by, is_malformed, malformed_by, room_test, reply_rules}

-- Sizes in words.

-- the widths of a line record
abbrev pub width_words : ℕ
width_words = max_levels

-- a line record: start, first token, depth, arrow, open levels, then the widths
abbrev pub line_size : ℕ
line_size = 5 + width_words

-- a token record
abbrev pub token_size : ℕ
token_size = 5

-- needed for m lines and for k tokens
abbrev pub line_need : ℕ → ℕ
line_need m = line_size * (m + 1)

abbrev pub token_need : ℕ → ℕ
token_need k = token_size * k

-- Line records.

-- the widths, outermost first, unused ones 0
unfoldable pub packed : List ℕ → List ℕ
packed ws = take width_words (ws ++ replicate width_words 0)

unfoldable pub state_words : State → List ℕ
state_words s = s.depth ∷ bit s.arrow ∷ length s.widths ∷ packed s.widths

-- start, number of the first token, the state before the line
unfoldable pub line_record : (start first : ℕ) → State → List ℕ
line_record p k s = p ∷ k ∷ state_words s

-- the records of lines of which the first starts at byte p, with token k
unfoldable pub line_records : (p k : ℕ) → List Entry → List ℕ
line_records p k [] = []
line_records p k (e ∷ es) = line_record p k e.before ++ line_records (p + e.size) (k + length e.tokens) es

-- Token records.

-- of the line that starts at byte p, with number l: kind, position, length, line, column
unfoldable pub token_words : (p l : ℕ) → List Token → List ℕ
token_words p l [] = []
token_words p l (t ∷ ts) = t.kind ∷ (p + t.at) ∷ t.size ∷ l ∷ suc t.at ∷ token_words p l ts

-- of lines of which the first starts at byte p, with number l
unfoldable pub token_records : (p l : ℕ) → List Entry → List ℕ
token_records p l [] = []
token_records p l (e ∷ es) = token_words p l e.tokens ++ token_records (p + e.size) (suc l) es

-- The whole text.

-- the end as one more line: no bytes, a Dedent for each open level
abbrev pub end_entry : State → Entry
end_entry s = entry s 0 (dedents (length s.widths))

abbrev pub with_end : List Entry → State → List Entry
with_end es s = es ++ (end_entry s ∷ [])

-- n bytes, m lines, k tokens
pub record Header : Type 0 where
  pub n : ℕ
  pub m : ℕ
  pub k : ℕ

abbrev pub header : (n m k : ℕ) → Header
header n m k = record { n = n; m = m; k = k }

abbrev pub header_words : Header → List ℕ
header_words h = h.n ∷ h.m ∷ h.k ∷ []

-- a header with the line words and the token words
pub record Records : Type 0 where
  pub head : Header
  pub lines : List ℕ
  pub tokens : List ℕ

unfoldable pub records_of : List Entry → State → Records
records_of es s =
    record {
      head = header (byte_sum es) (length es) (token_sum (with_end es s));
      lines = line_records 0 0 (with_end es s);
      tokens = token_records 0 1 (with_end es s);
    }

-- 5 (lines), 5 (tokens): buffers of these lengths for the records
unfoldable pub record_tests : (lines tokens : ℕ) → Records → List (Option Refusal)
record_tests lines tokens r =
    room_test lines_buffer lines (line_need r.head.m) ∷ room_test tokens_buffer tokens (token_need r.head.k) ∷ []

-- A fresh reading: a reading of a text by itself, with room for its records.

pub data FreshReading : Type 0 where
  recorded : Records → FreshReading
  unread : Unread → FreshReading

-- 3 or 4, at the line with this number, which starts at this byte
unfoldable pub halt_refusal : (start number : ℕ) → Halt → Unread
halt_refusal p l (failed f) = lexical (failure_record p l f)
halt_refusal p l (over_limit number) = at_line number l

unfoldable pub recorded_by : Reading → FreshReading
recorded_by (reads es s) = recorded (records_of es s)
recorded_by (halts es h) = unread (halt_refusal (byte_sum es) (suc (length es)) h)

-- 3 or 4 as the reading meets them
unfoldable pub read_lines : LineLimits → List ℕ → FreshReading
read_lines lim t = recorded_by (read_from lim initial (lines_of t))

-- 1, 2, then those
unfoldable pub fresh_reading_by : Limits → List ℕ → FreshReading
fresh_reading_by lim t =
    if is_too_long lim t then unread (too_long_by lim t)
    else if is_malformed t then unread (malformed_by t)
    else read_lines lim.line t

unfoldable pub fresh_reading : List ℕ → FreshReading
fresh_reading t = fresh_reading_by barge t

-- the lines that the records of a text come from
pub record Behind (lim : LineLimits) (t : List ℕ) (r : Records) : Type 0 where
  pub entries : List Entry
  pub end : State
  pub reads-are : read_from lim initial (lines_of t) ≡ reads entries end
  pub records-are : r ≡ records_of entries end

-- opens the definitions above, and those of the modules below, where a proof says `unfolding record_rules`
unfoldable pub record_rules : Unit {0}
unfolding packed state_words line_record line_records token_words token_records records_of record_tests halt_refusal recorded_by read_lines
    fresh_reading_by fresh_reading reply_rules reading_rules
record_rules = tt
