-- What a pass over a text gives and writes.
-- Assumes nothing.
use Rattle.std.specs.Prelude.{ℕ, ◌≡◌, List, length, Option, Some, None, Result, Ok, Err}
use Rattle.rules.specs.Reading.{Reading, reads, halts, byte_sum, token_sum}
use Rattle.rules.specs.Records.{line_need, token_need, Header, with_end, records_of, FreshReading, recorded, unread}
use Rattle.records.specs.declared.Counts.{Counts}
use Rattle.refusals.specs.Unreads.{unread_in}
use Rattle.refusals.specs.declared.Unread.{Unread}

-- the numbers of a header
abbrev pub counts_of : Header → Counts
counts_of h = record { bytes = h.n; lines = h.m; tokens = h.k }

-- the numbers of bytes, lines and tokens, or why the text does not read
abbrev pub pass_of : FreshReading → Result Counts Unread
pass_of (recorded r) = Ok (counts_of r.head)
pass_of (unread u) = Err (unread_in u)

-- the words of its records
abbrev pub line_need_of : Reading → Option ℕ
line_need_of (reads es z) = Some (line_need (length es))
line_need_of (halts es h) = None

abbrev pub token_need_of : Reading → Option ℕ
token_need_of (reads es z) = Some (token_need (token_sum (with_end es z)))
token_need_of (halts es h) = None

-- they take its records, where it reads
abbrev pub TakenIn : (lines tokens : ℕ → List ℕ → Type 0) → Reading → Type 0
TakenIn lines tokens (reads es z) = lines 0 (records_of es z).lines × tokens 0 (records_of es z).tokens
TakenIn lines tokens (halts es h) = Unit {0}

-- the text reads, with so many bytes, lines and tokens
abbrev pub Counted : Counts → Reading → Type 0
Counted c (reads es z) = (c.bytes ≡ byte_sum es) × (c.lines ≡ length es) × (c.tokens ≡ token_sum (with_end es z))
Counted c (halts es h) = ⊥
