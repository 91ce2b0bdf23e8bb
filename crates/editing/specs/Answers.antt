-- The answer of an edit, in the document's numbers and values, and what is lent before and after.
-- Assumes nothing.
use Rattle.std.specs.Prelude.{ℕ, ◌-◌, List, [], ◌∷◌, Result}
use Rattle.rules.specs.Replies.{Reply}
use Rattle.rules.specs.Records.{Header}
use Rattle.rules.specs.Page.{Lent, header_after}
use Rattle.refusals.specs.Replies.{reply_of}
use Rattle.refusals.specs.declared.Refusal.{Refusal}
use Rattle.plans.specs.Plans.{lines_after, tokens_after}
use Rattle.plans.specs.declared.Plan.{Plan}
use Rattle.editing.specs.declared.Edited.{Edited}

-- the header afterwards, and the re-read count
abbrev pub edit_values : Edited → List ℕ
edit_values e = e.bytes ∷ e.lines ∷ e.tokens ∷ e.reread ∷ []

abbrev pub edit_numbers : Result Edited Refusal → Reply
edit_numbers r = reply_of edit_values r

-- the answer of an edit of `size` bytes that is written by a plan, for a page of m lines and k tokens
abbrev pub edited_by : (size m k : ℕ) → Plan → Edited
edited_by size m k p = record { bytes = size; lines = lines_after p m - 1; tokens = tokens_after p k; reread = p.read.lines }

-- a header and the buffers
abbrev pub lent : Header → (text spare lines tokens : List ℕ) → Lent
lent h text spare lines tokens = record { page = record { head = h; text = text; lines = lines; tokens = tokens }; spare = spare }

-- with the header that a reply leaves
abbrev pub lent_after : Header → Reply → (text spare lines tokens : List ℕ) → Lent
lent_after h reply text spare lines tokens = lent (header_after h reply) text spare lines tokens
