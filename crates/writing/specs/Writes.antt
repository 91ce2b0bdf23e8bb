-- The records that an accepted edit leaves.
-- Assumes nothing.
use Rattle.std.specs.Prelude.{ℕ, ◌+◌, ◌-◌, ◌*◌, List, ◌++◌, take}
use Rattle.rules.specs.Reading.{Entry}
use Rattle.rules.specs.Records.{line_size, token_size, line_records, token_records}
use Rattle.moving.specs.Moved.{moved_lines, moved_tokens}
use Rattle.plans.specs.declared.Plan.{Plan}
use Rattle.plans.specs.Plans.{moved_to, new_lines, planned_lines}

-- the lines that a plan writes, for the edited text u and the old line words
abbrev pub written : (u lines : List ℕ) → Plan → List Entry
written u lines p = new_lines p.end (planned_lines u lines p)

-- their line records, and the old ones of the kept tail, moved
abbrev pub line_tail : (u lines : List ℕ) (m : ℕ) → Plan → List ℕ
line_tail u lines m p =
    let to = moved_to p in
    line_records p.begin.bytes p.begin.tokens (written u lines p)
    ++ moved_lines p.kept.bytes to.bytes p.kept.tokens to.tokens lines p.kept.lines (m + 1 - p.kept.lines)

-- their token records, and the old ones of the kept tail, moved
abbrev pub token_tail : (u lines tokens : List ℕ) (k : ℕ) → Plan → List ℕ
token_tail u lines tokens k p =
    let to = moved_to p in
    token_records p.begin.bytes (p.begin.lines + 1) (written u lines p)
    ++ moved_tokens p.kept.bytes to.bytes (p.kept.lines + 1) (to.lines + 1) tokens p.kept.tokens (k - p.kept.tokens)

-- all the words, those before the first written one included
abbrev pub written_lines : (u lines : List ℕ) (m : ℕ) → Plan → List ℕ
written_lines u lines m p = take (line_size * p.begin.lines) lines ++ line_tail u lines m p

abbrev pub written_tokens : (u lines tokens : List ℕ) (k : ℕ) → Plan → List ℕ
written_tokens u lines tokens k p = take (token_size * p.begin.tokens) tokens ++ token_tail u lines tokens k p
