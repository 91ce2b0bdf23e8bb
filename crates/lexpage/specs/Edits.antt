-- An edit told through the C interface.
-- Assumes nothing.
use Rattle.std.specs.Prelude.{ℕ, ◌≡◌, List, length}
use Rattle.std.proofs.lemmas.List.Edits.{sets}
use Rattle.rules.specs.Replies.{Reply}
use Rattle.rules.specs.Page.{Lent}
use Rattle.rules.specs.StopRule.{Edit}
use Rattle.rules.specs.Edit.{EditPost}
use Rattle.editing.specs.Answers.{lent_after}

-- THE CONTRACT of the call: an answer that the edit's contract allows, with the buffers it leaves, stands at the front of the
-- reply, and `count` is the number of its words
pub record EditReplied (q : Lent) (ed : Edit) (reply : List ℕ) (count : ℕ) (reply' text spare lines tokens : List ℕ) : Type 0 where
  pub answer : Reply
  pub count-is : count ≡ length answer
  pub reply-is : reply' ≡ sets reply 0 answer
  pub post : EditPost q ed answer (lent_after q.page.head answer text spare lines tokens)
