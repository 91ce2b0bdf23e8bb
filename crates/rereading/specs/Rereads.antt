-- What reading on gives, on any page and on a faithful one.
-- Assumes nothing.
use Rattle.std.specs.Prelude.{ℕ, ◌+◌, ◌≤◌, ◌<◌, ◌≡◌, List, ◌++◌, length, take, drop, Result, Ok, Err}
use Rattle.rules.specs.Line.{State, initial, Halt}
use Rattle.rules.specs.Reading.{lines_of, Entry, Reading, reads, halts, read_from, byte_sum, token_sum, line_at}
use Rattle.rules.specs.Limits.{LineLimits}
use Rattle.rules.specs.Records.{halt_refusal, line_need, line_records, with_end}
use Rattle.rules.specs.StopRule.{Edit, edited, kept_from, reread_count, from_line, from_byte, from_state}
use Rattle.refusals.specs.Unreads.{unread_in}
use Rattle.refusals.specs.declared.Unread.{Unread}
use Rattle.records.specs.Words.{start_word}
use Rattle.line.specs.LineCuts.{state_left}
use Rattle.records.specs.declared.Counts.{Counts}
use Rattle.rereading.specs.Words.{old_byte}
use Rattle.rereading.specs.declared.Reached.{Reached}
use Rattle.rereading.specs.declared.Reached.TheVariants.{Stop, End}

-- the lines behind the records of a faithful page of m lines, an edit of it, and where reading again begins: at line i, byte `base`,
-- in the state z, compared with the old line `from` on; `rest` is the edited text from there on
pub record Old (lim : LineLimits) (rest lines : List ℕ) (base i m from b kept : ℕ) (z : State) : Type 0 where
  pub text : List ℕ
  pub entries : List Entry
  pub end : State
  pub reads-are : read_from lim initial (lines_of text) ≡ reads entries end
  pub m-is : m ≡ length entries
  pub lines_are : take (line_need m) lines ≡ line_records 0 0 (with_end entries end)
  pub ed : Edit
  pub begins : ed.a ≤ length text
  pub order : ed.a ≤ ed.b
  pub inside : ed.b ≤ length text
  pub b-is : b ≡ ed.b
  pub kept-is : kept ≡ kept_from ed
  pub i-is : i ≡ from_line text ed
  pub from_is : from ≡ i
  pub base-is : base ≡ from_byte text entries ed
  pub state-is : z ≡ from_state text entries end ed
  pub rest-is : rest ≡ drop (from_byte text entries ed) (edited text ed)

-- so many bytes, lines and tokens
pub record Counted (c : Counts) (es : List Entry) : Type 0 where
  pub bytes : byte_sum es ≡ c.bytes
  pub lines : length es ≡ c.lines
  pub tokens : token_sum es ≡ c.tokens

-- the first lines of a text, so many, read from the state z
pub record Lines (lim : LineLimits) (text : List ℕ) (z : State) (c : Counts) : Type 0 where
  pub es : List Entry
  pub after : State
  pub reads-are : read_from lim z (take c.lines (lines_of text)) ≡ reads es after
  pub counted : Counted c es

-- the reading of a text that begins at byte `base` and line i of the whole, i from 0 on, halts for this reason
abbrev pub HaltsAs : Reading → (base i : ℕ) → Unread → Type 0
HaltsAs x base i u = (es : List Entry) × (h : Halt) × (x ≡ halts es h) × (u ≡ unread_in (halt_refusal (base + byte_sum es) (i + length es + 1) h))

-- and in the line that does not read this state is left
pub record HaltsIn (lim : LineLimits) (text : List ℕ) (z : State) (base i : ℕ) (left : State) (u : Unread) : Type 0 where
  pub es : List Entry
  pub halt : Halt
  pub before : State
  pub halts-are : read_from lim z (lines_of text) ≡ halts es halt
  pub why : u ≡ unread_in (halt_refusal (base + byte_sum es) (i + length es + 1) halt)
  pub read-before : read_from lim z (take (length es) (lines_of text)) ≡ reads es before
  pub left-is : left ≡ state_left lim before (line_at text (byte_sum es))

module _ (lim : LineLimits) (rest lines : List ℕ) (base i m from b kept : ℕ) (z : State) where
  -- a stop at the old line j, or the end, in the state `left`, after so many bytes, lines and tokens; or why a line does not read. On a faithful
  -- page it is what a fresh reading of the edited text gives.
  abbrev pub RereadIs : (left : State) → Result Reached Unread → Type 0
  RereadIs left (Ok (Stop c j)) =
      (x : Lines lim rest z c)
      × ((c.bytes < length rest) × ((j ≤ m) × ((kept < base + c.bytes) × (start_word lines j ≡ old_byte b kept (base + c.bytes)))))
      × ((o : Old lim rest lines base i m from b kept z)
      → (read_from lim initial (lines_of (edited o.text o.ed)) ≡ reads (take i o.entries ++ (x.es ++ drop j o.entries)) o.end)
      × (reread_count lim o.text o.ed ≡ c.lines) × (byte_sum (take j o.entries) ≡ old_byte b kept (base + c.bytes)) × (j < length o.entries))
      × (left ≡ x.after)
  RereadIs left (Ok (End c)) =
      (es : List Entry)
      × Counted c es
      × (read_from lim z (lines_of rest) ≡ reads es left)
      × (c.bytes ≡ length rest)
      × ((o : Old lim rest lines base i m from b kept z)
      → (read_from lim initial (lines_of (edited o.text o.ed)) ≡ reads (take i o.entries ++ es) left)
      × (reread_count lim o.text o.ed ≡ c.lines))
  RereadIs left (Err u) =
      HaltsIn lim rest z base i left u
      × ((o : Old lim rest lines base i m from b kept z) → HaltsAs (read_from lim initial (lines_of (edited o.text o.ed))) 0 0 u)
