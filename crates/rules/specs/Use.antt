-- A page in use: it may begin with a reading, and between edits its buffers may be replaced by longer ones.
-- Assumes nothing.
use Rattle.std.specs.Prelude.{ℕ, ◌≡◌, false, List, [], length, take}
use Rattle.rules.specs.Replies.{Reply, is_refused}
use Rattle.rules.specs.Page.{Lent, Sizes, sizes, header_after}
use Rattle.rules.specs.StopRule.{Edit}
use Rattle.rules.specs.Edit.{outcome, reply_of, EditPost}
use Rattle.rules.specs.Read.{Filled, read_into}
use Rattle.rules.specs.History.{Chain, paper_next, Settled, Holds, Demand3From}

-- a buffer begins with these elements
abbrev pub Begins : (xs buffer : List ℕ) → Type 0
Begins xs buffer = take (length xs) buffer ≡ xs

-- The page of a reading.

-- the header of a reading's reply, lines and tokens as it leaves them, text and spare as they are lent
abbrev pub with_filled : Lent → Filled → Lent
with_filled q f =
    record {
      page = record { head = header_after q.page.head f.reply; text = q.page.text; lines = f.lines; tokens = f.tokens };
      spare = q.spare;
    }

abbrev pub read_lent : Lent → (t : List ℕ) → Lent
read_lent q t = with_filled q (read_into t q.page.lines q.page.tokens)

-- a reading that accepts the text t, with which the text buffer begins
pub record ReadPost (q : Lent) (t : List ℕ) (reply : Reply) (q' : Lent) : Type 0 where
  pub begins : Begins t q.page.text
  pub reply-is : reply ≡ (read_into t q.page.lines q.page.tokens).reply
  pub accepts : is_refused reply ≡ false
  pub lent_is : q' ≡ read_lent q t

-- demand 3 after a reading, from the text that was read
abbrev pub Demand3Read : Type 0
Demand3Read = (lent first : Lent) (t : List ℕ) (reply : Reply) → ReadPost lent t reply first → Demand3From (sizes lent) t first

-- Longer buffers.

-- the same header over buffers that begin as the old ones; what the new spare holds is free
pub record Grown (q q' : Lent) : Type 0 where
  pub head-is : q'.page.head ≡ q.page.head
  pub text : Begins q.page.text q'.page.text
  pub lines : Begins q.page.lines q'.page.lines
  pub tokens : Begins q.page.tokens q'.page.tokens

-- a step: an edit, or longer buffers, of these lengths
pub data Step : Type 0 where
  edit : Edit → Step
  grow : Sizes → Step

-- what a step leaves; longer buffers have no reply
abbrev pub StepPost : Lent → Step → Reply → Lent → Type 0
StepPost q (edit ed) reply q' = EditPost q ed reply q'
StepPost q (grow z) reply q' = (reply ≡ []) × (sizes q' ≡ z) × Grown q q'

-- the same on paper, where the text is, and the buffers' lengths
pub record Paper : Type 0 where
  pub sizes : Sizes
  pub text : List ℕ

abbrev pub paper : Sizes → List ℕ → Paper
paper z t = record { sizes = z; text = t }

-- an edit is settled as ever, in the lengths that it finds; longer buffers change the lengths alone
pub record EditOnPaper (p : Paper) (ed : Edit) (reply : Reply) (p' : Paper) : Type 0 where
  pub reply-is : reply ≡ reply_of (outcome p.sizes p.text ed)
  pub settled : Settled p.sizes p.text ed reply p'.text
  pub paper-is : p' ≡ paper p.sizes (paper_next p.sizes p.text ed)

abbrev pub PaperPost : Paper → Step → Reply → Paper → Type 0
PaperPost p (edit ed) reply p' = EditOnPaper p ed reply p'
PaperPost p (grow z) reply p' = (reply ≡ []) × (p' ≡ paper z p.text)

-- every list of steps, each on what the last one left, is one on paper with the same replies, and the buffers then hold the text on paper
abbrev pub StepsFrom : Sizes → (t : List ℕ) → (first : Lent) → Type 0
StepsFrom z t first =
    (cs : List Step) (rs : List Reply) (last : Lent) → Chain StepPost first cs rs last
    → (p : Paper) × Chain PaperPost (paper z t) cs rs p × Holds p.sizes p.text last
