-- What an edit writes: the lines read again, and the tail that is kept.
-- Assumes nothing.
use Rattle.std.specs.Prelude.{ℕ, ◌+◌, ◌-◌, ◌*◌, ◌≤◌, ◌≡◌, List, [], ◌++◌, ◌⊎◌, ltb, length, take, drop, Option, Some, None, is_some, unwrap_or, Result, Ok, Err, if◌then◌else◌}
use Rattle.rules.specs.Lists.{bit}
use Rattle.rules.specs.Line.{State, initial}
use Rattle.rules.specs.Reading as RulesReading
use Rattle.rules.specs.Reading.{lines_of, Entry, reads, halts, read_from, byte_sum, token_sum}
use Rattle.rules.specs.Limits.{max_levels, barge_line, LimitNumber}
use Rattle.rules.specs.Replies as RulesReplies
use Rattle.rules.specs.Records.{line_size, token_size, Header, with_end, read_lines, Behind}
use Rattle.rules.specs.Page as RulesPage
use Rattle.rules.specs.Page.{page_text, page_records, Faithful}
use Rattle.rules.specs.StopRule as RulesEdit
use Rattle.rules.specs.StopRule.{edited, reread_count}
use Rattle.rules.specs.Edit.{late, stored}
use Rattle.refusals.specs.Unreads.{refusal_of}
use Rattle.refusals.specs.declared.Unread.{Unread}
use Rattle.refusals.specs.declared.Unread.TheVariants.{TooLong, Malformed, Fails, AtLine}
use Rattle.refusals.specs.declared.Buffer.TheVariants.{Lines, Tokens}
use Rattle.refusals.specs.declared.Refusal.{Refusal}
use Rattle.refusals.specs.declared.Refusal.TheVariants.{Reading, Short, Outside, Unfit}
use Rattle.records.specs.Words.{line_word, state_from}
use Rattle.records.specs.declared.Counts.{Counts}
use Rattle.plans.specs.declared.Plan.{Plan}
use Rattle.plans.specs.declared.Edit.{Edit}

-- Where a plan writes.

-- what stands before the end, where it is written anew
abbrev pub before_end : Plan → Counts
before_end p = record { bytes = p.begin.bytes + p.read.bytes; lines = p.begin.lines + p.read.lines; tokens = p.begin.tokens + p.read.tokens }

-- then it has so many line records and so many token records
abbrev pub end_lines : Option ℕ → ℕ
end_lines end = bit (is_some end)

abbrev pub end_tokens : Option ℕ → ℕ
end_tokens end = unwrap_or end 0

-- what stands before the kept tail afterwards
abbrev pub moved_to : Plan → Counts
moved_to p = let at = before_end p in record { bytes = at.bytes; lines = at.lines + end_lines p.end; tokens = at.tokens + end_tokens p.end }

-- in numbers far within a word
abbrev pub Small : Plan → Type 0
Small p = let to = moved_to p in (to.bytes ≤ 18_446_744_073_709_551_615) × (to.lines ≤ 4_294_967_295) × (to.tokens ≤ 4_294_967_295)

-- The numbers of records afterwards.

-- line records, the end's included
abbrev pub lines_after : Plan → (m : ℕ) → ℕ
lines_after p m = (moved_to p).lines + (m + 1 - p.kept.lines)

abbrev pub tokens_after : Plan → (k : ℕ) → ℕ
tokens_after p k = (moved_to p).tokens + (k - p.kept.tokens)

-- a plan on a page: 7 where no text has so many tokens, 5 (lines), 5 (tokens)
abbrev pub roomed : RulesPage.Page → Plan → Result Plan Refusal
roomed pg p =
    if ltb 2_097_152 (tokens_after p pg.head.k) then Err Unfit
    else if ltb (length pg.lines) (line_size * lines_after p pg.head.m) then Err (Short Lines (line_size * lines_after p pg.head.m))
    else if ltb (length pg.tokens) (token_size * tokens_after p pg.head.k) then Err (Short Tokens (token_size * tokens_after p pg.head.k))
    else Ok p

-- what stands before line i of a page, by its record
abbrev pub before_line : (lines : List ℕ) (i : ℕ) → Counts
before_line lines i = record { bytes = line_word lines i 0; lines = i; tokens = line_word lines i 1 }

-- The plan at a stop after what was read, at the old line j.
abbrev pub stop_plan : (lines : List ℕ) (begin read : Counts) (j : ℕ) → Plan
stop_plan lines begin read j = record { begin = begin; read = read; end = None; kept = before_line lines j }

abbrev pub stop_answer : RulesPage.Page → (begin read : Counts) (j : ℕ) → Result Plan Refusal
stop_answer pg begin read j = if ltb pg.head.k (line_word pg.lines j 1) then Err Unfit else roomed pg (stop_plan pg.lines begin read j)

-- The plan at the end of a text after what was read, with so many levels open; the old text had n bytes, and nothing is kept.
abbrev pub end_plan : Header → (n : ℕ) (begin read : Counts) (levels : ℕ) → Plan
end_plan h n begin read levels = record { begin = begin; read = read; end = Some levels; kept = record { bytes = n; lines = h.m + 1; tokens = h.k } }

abbrev pub end_answer : RulesPage.Page → (n : ℕ) (begin read : Counts) (levels : ℕ) → Result Plan Refusal
end_answer pg n begin read levels = roomed pg (end_plan pg.head n begin read levels)

-- What is written.

-- the lines that were read again; where the end is written anew, the end as one more
abbrev pub new_lines : (end : Option ℕ) → RulesReading.Reading → List Entry
new_lines end (reads es z) = if is_some end then with_end es z else es
new_lines end (halts es h) = []

-- the lines of the edited text u that a plan reads again, from the state z
abbrev pub reread : (u : List ℕ) → (z : State) → Plan → RulesReading.Reading
reread u z p = read_from barge_line z (take p.read.lines (lines_of (drop p.begin.bytes u)))

-- from the state in the page's line words
abbrev pub planned_lines : (u lines : List ℕ) → Plan → RulesReading.Reading
planned_lines u lines p = reread u (state_from lines p.begin.lines) p

-- they read, and have so many bytes, lines and tokens; where the end is written anew, so many levels are open there
pub record ReadsAs (p : Plan) (x : RulesReading.Reading) : Type 0 where
  pub entries : List Entry
  pub last : State
  pub reads-are : x ≡ reads entries last
  pub bytes : byte_sum entries ≡ p.read.bytes
  pub lines : length entries ≡ p.read.lines
  pub tokens : token_sum entries ≡ p.read.tokens
  pub levels : (levels : ℕ) → p.end ≡ Some levels → levels ≡ length last.widths

-- a plan for any page of m lines and k tokens whose line words are these: it stays within the page and its buffers
pub record Planned (u lines : List ℕ) (m k : ℕ) (p : Plan) : Type 0 where
  pub m-le : m ≤ 1_048_576
  pub k-le : k ≤ 2_097_152
  pub begin-lines : p.begin.lines ≤ m
  pub begin-bytes : p.begin.lines ≤ p.begin.bytes
  pub read-bytes : p.begin.bytes + p.read.bytes ≤ length u
  pub depth : line_word lines p.begin.lines 2 ≤ p.begin.bytes
  pub levels : line_word lines p.begin.lines 4 ≤ max_levels
  pub reads_as : ReadsAs p (planned_lines u lines p)
  pub begin-tokens : p.begin.tokens ≤ k
  pub kept-tokens : p.kept.tokens ≤ k
  pub kept-lines : p.kept.lines ≤ m + 1
  pub kept-bytes : p.kept.bytes ≤ 4_294_967_295
  pub read-lines : p.read.lines + end_lines p.end ≤ 1_048_577
  pub some : 1 ≤ p.read.lines + end_lines p.end + (m + 1 - p.kept.lines)

pub record Roomy (m k lines tokens : ℕ) (p : Plan) : Type 0 where
  pub line-room : line_size * lines_after p m ≤ lines
  pub token-room : token_size * tokens_after p k ≤ tokens
  pub few : tokens_after p k ≤ 2_097_152

-- what stands before so many of these lines
abbrev pub Before : List Entry → Counts → Type 0
Before es c = (c.bytes ≡ byte_sum (take c.lines es)) × (c.tokens ≡ token_sum (take c.lines es))

-- on a faithful page: the edited text reads, and its lines are the old ones with those from `begin` to `kept` replaced
pub record Mends (t lines : List ℕ) (old : List Entry) (end : State) (ed : RulesEdit.Edit) (p : Plan) : Type 0 where
  pub entries : List Entry
  pub last : State
  pub reads-are : read_from barge_line initial (lines_of (edited t ed)) ≡ reads entries last
  pub mended : with_end entries last ≡ take p.begin.lines (with_end old end) ++ (new_lines p.end (planned_lines (edited t ed) lines p) ++ drop p.kept.lines (with_end old end))
  pub count : reread_count barge_line t ed ≡ p.read.lines
  pub begin-is : Before (with_end old end) p.begin
  pub kept-is : Before (with_end old end) p.kept

-- The answer.

abbrev pub edit_of : (a b : ℕ) (w : List ℕ) → RulesEdit.Edit
edit_of a b w = record { a = a; b = b; w = w }

-- the edit that a call is lent
abbrev pub lent_edit : Edit → RulesEdit.Edit
lent_edit e = edit_of e.a e.b e.w.now

abbrev pub edited_text : List ℕ → RulesEdit.Edit → List ℕ
edited_text t ed = edited t ed

-- a refusal that the reading of lines meets: 3, or one of their limits
abbrev pub LineRefusal : Unread → Type 0
LineRefusal (TooLong number n) = ⊥
LineRefusal (Malformed n) = ⊥
LineRefusal (Fails f) = Unit {0}
LineRefusal (AtLine number l) = LimitNumber barge_line number

-- a refusal that a plan meets: those, 5 for lines or tokens, 7
abbrev pub PlanRefusal : Refusal → Type 0
PlanRefusal (Reading u) = LineRefusal u
PlanRefusal (Short b n) = (b ≡ Lines) ⊎ (b ≡ Tokens)
PlanRefusal Outside = ⊥
PlanRefusal Unfit = Unit {0}

-- a plan; or a refusal, which on a faithful page is the one on paper
module _ (pg : RulesPage.Page) (ed : RulesEdit.Edit) where
  abbrev pub OnPaper : RulesReplies.Refusal → Type 0
  OnPaper r =
      (spare : ℕ) → Faithful pg
      → stored (record { text = length pg.text; spare = spare; lines = length pg.lines; tokens = length pg.tokens })
      (reread_count barge_line (page_text pg) ed) (read_lines barge_line (edited (page_text pg) ed))
      ≡ late r

  abbrev pub PlanIs : Result Plan Refusal → Type 0
  PlanIs (Ok p) =
      Planned (edited (page_text pg) ed) pg.lines pg.head.m pg.head.k p
      × (Roomy pg.head.m pg.head.k (length pg.lines) (length pg.tokens) p
      × ((b : Behind barge_line (page_text pg) (page_records pg)) → Mends (page_text pg) pg.lines b.entries b.end ed p))
  PlanIs (Err r) = PlanRefusal r × OnPaper (refusal_of r)
