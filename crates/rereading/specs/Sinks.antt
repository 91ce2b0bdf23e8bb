-- What the sinks of the records need and take when lines are read.
-- Assumes nothing.
use Rattle.std.specs.Prelude.{ℕ, ◌+◌, ◌*◌, ◌≤◌, ◌≡◌, List, ◌⊎◌, length, Option, Some, None, Result, Ok, Err}
use Rattle.rules.specs.Line.{State}
use Rattle.rules.specs.Reading.{lines_of, Entry, Reading, reads, halts, read_from, token_sum}
use Rattle.rules.specs.Limits.{LineLimits}
use Rattle.rules.specs.Records.{line_size, token_size, line_records, token_records}
use Rattle.records.specs.declared.Counts.{Counts}
use Rattle.records.specs.declared.Place.{Place}
use Rattle.refusals.specs.declared.Unread.{Unread}
use Rattle.rereading.specs.Rereads.{Counted, HaltsIn}
use Rattle.rereading.specs.declared.Reached.{Reached}
use Rattle.rereading.specs.declared.Reached.TheVariants.{Stop, End}

-- the indices behind the records of all lines from a place on
abbrev pub line_records_end : Place → Reading → Option ℕ
line_records_end p (reads es z) = Some (line_size * (p.line + length es))
line_records_end p (halts es h) = None

abbrev pub token_records_end : Place → Reading → Option ℕ
token_records_end p (reads es z) = Some (token_size * (p.first + token_sum es))
token_records_end p (halts es h) = None

-- the tokens from token k on have small numbers, as they have where they begin with 0
abbrev pub Few : Reading → (k : ℕ) → Type 0
Few (reads es z) k = (k ≡ 0) ⊎ (k + token_sum es ≤ 3_000_000)
Few (halts es h) k = k ≡ 0

-- all records are taken, where all lines read
abbrev pub AllTaken : (lines tokens : ℕ → List ℕ → Type 0) → Place → Reading → Type 0
AllTaken lines tokens p (reads es z) =
    lines (line_size * p.line) (line_records p.start p.first es) × tokens (token_size * p.first) (token_records p.start (p.line + 1) es)
AllTaken lines tokens p (halts es h) = Unit {0}

-- at the end of the text
abbrev pub AtEnd : Type 0 → Result Reached Unread → Type 0
AtEnd holds (Ok (End c)) = holds
AtEnd holds (Ok (Stop c j)) = Unit {0}
AtEnd holds (Err u) = Unit {0}

-- the lines of a text that begins at byte `base` and line i of the whole are read to the end, so many bytes, lines and tokens, in the state
-- that is left; or they halt for this reason
abbrev pub EndIs : LineLimits → (text : List ℕ) → State → (base i : ℕ) → (left : State) → Result Counts Unread → Type 0
EndIs lim text z base i left (Ok c) = (es : List Entry) × (read_from lim z (lines_of text) ≡ reads es left) × Counted c es
EndIs lim text z base i left (Err u) = HaltsIn lim text z base i left u
