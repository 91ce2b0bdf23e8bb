-- Where reading again begins: the line, and its record by its words. What reading again gives.
-- Assumes nothing.
use Rattle.std.specs.Prelude.{ℕ, Bool, ◌&&◌, List, leb, ltb, take, drop, Option, Some, None, Result, if◌then◌else◌}
use Rattle.rules.specs.Line.{State}
use Rattle.rules.specs.Reading.{count_lf}
use Rattle.rules.specs.Limits.{max_levels, barge_line}
use Rattle.rules.specs.Page.{Page}
use Rattle.rules.specs.StopRule.{Edit, kept_from}
use Rattle.records.specs.Words.{line_word}
use Rattle.refusals.specs.declared.Unread.{Unread}
use Rattle.rereading.specs.declared.Reached.{Reached}
use Rattle.rereading.specs.Rereads.{RereadIs}

-- reading can begin at record i, for an edit from byte a on of a page with k tokens
abbrev pub is_usable : List ℕ → (i k a : ℕ) → Bool
is_usable lines i k a =
    leb (line_word lines i 0) a
    && (leb i (line_word lines i 0)
    && (leb (line_word lines i 1) k && (leb (line_word lines i 2) (line_word lines i 0) && leb (line_word lines i 4) max_levels)))

-- The line where reading again begins, for an edit from byte a on; none where no faithful page has such a header or such a record.
abbrev pub begin_line : Page → (a : ℕ) → Option ℕ
begin_line pg a =
    let i = count_lf (take a pg.text) in
    if ltb 1_048_576 pg.head.m then None
    else if ltb 2_097_152 pg.head.k then None
    else if ltb pg.head.m i then None
    else if is_usable pg.lines i pg.head.k a then Some i
    else None

-- The edited text u, read again under the barge's limits from line i of a page on, from the state z, up to the stop rule of the edit.
abbrev pub RereadFrom : Page → (u : List ℕ) → Edit → (i : ℕ) → (z left : State) → Result Reached Unread → Type 0
RereadFrom pg u ed i z =
    let base = line_word pg.lines i 0 in
    RereadIs barge_line (drop base u) pg.lines base i pg.head.m i ed.b (kept_from ed) z
