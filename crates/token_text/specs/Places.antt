-- Where a token's text stands in memory: it is handed back as a part of a lent slice, not as a copy.
-- Assumes nothing.
use Rattle.std.specs.Prelude.{ℕ, ◌+◌, eqb, if◌then◌else◌}
use Rattle.rules.specs.Replies.{text_buffer}
use Rattle.rules.specs.TokenText.{Part}

-- a place in memory: a block, and the offset of a byte in it
abbrev pub Place : Type 0
Place = ℕ × ℕ

-- so many bytes further
abbrev pub after : Place → ℕ → Place
after p n = (p.0, n + p.1)

-- where a part of the text or of the names begins, from where these two begin
abbrev pub part_place : (text names : Place) → Part → Place
part_place text names p = after (if eqb p.buffer text_buffer then text else names) p.start
