-- A reading of a text by itself: its reply, and what lines and tokens hold afterwards.
-- Assumes nothing.
use Rattle.std.specs.Prelude.{ℕ, List, length}
use Rattle.rules.specs.Lists.{overwrite}
use Rattle.rules.specs.Replies.{Refusal, reading, Reply, numbered, accepted, first_of, unless}
use Rattle.rules.specs.Records.{header_words, Records, record_tests, FreshReading, recorded, unread, fresh_reading}

pub record Filled : Type 0 where
  pub reply : Reply
  pub lines : List ℕ
  pub tokens : List ℕ

-- a refusal leaves the buffers untouched
abbrev pub not_filled : (lines tokens : List ℕ) → Refusal → Filled
not_filled lines tokens r = record { reply = numbered r; lines = lines; tokens = tokens }

-- the records at the front of the buffers, later words untouched
abbrev pub filled : (lines tokens : List ℕ) → Records → Filled
filled lines tokens r =
    record { reply = accepted (header_words r.head); lines = overwrite r.lines lines; tokens = overwrite r.tokens tokens }

-- 1, 2, 3 or 4 came before; 5 (lines), 5 (tokens)
unfoldable pub filled_by : (lines tokens : List ℕ) → FreshReading → Filled
filled_by lines tokens (unread u) = not_filled lines tokens (reading u)
filled_by lines tokens (recorded r) =
    unless (first_of (record_tests (length lines) (length tokens) r)) (not_filled lines tokens) (filled lines tokens r)

unfoldable pub read_into : (t lines tokens : List ℕ) → Filled
read_into t lines tokens = filled_by lines tokens (fresh_reading t)
