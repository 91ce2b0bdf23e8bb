-- A lent list of edits, and the last reply.
-- Assumes nothing.
use Rattle.std.specs.Prelude.{ℕ, ◌-◌, ◌≤◌, List, [], ◌∷◌, map, take, drop, ◌≡◌, Result, Ok, Err}
use Rattle.rules.specs.Replies.{Reply, accepted}
use Rattle.rules.specs.Page.{Lent, sizes, fresh_lent}
use Rattle.rules.specs.StopRule.{Edit}
use Rattle.rules.specs.History.{Agrees}
use Rattle.refusals.specs.declared.Refusal.{Refusal}
use Rattle.plans.specs.Plans.{edit_of}
use Rattle.editing.specs.declared.Edited.{Edited}
use Rattle.history.specs.declared.Listed.{Listed}

-- an edit of a list: a, b, and the range of the lent bytes that is w
abbrev pub listed_edit : (bytes : List ℕ) → Listed → Edit
listed_edit bytes e = edit_of e.a e.b (take (e.end - e.start) (drop e.start bytes))

abbrev pub edits_of : List Listed → (bytes : List ℕ) → List Edit
edits_of edits bytes = map (listed_edit bytes) edits

-- the last reply; without edits, that of an edit of nothing
abbrev pub last_reply : List Reply → Reply
last_reply [] = accepted (0 ∷ 0 ∷ 0 ∷ 0 ∷ [])
last_reply (r ∷ []) = r
last_reply (r ∷ s ∷ rs) = last_reply (s ∷ rs)

-- an acceptance whose header fits in words
abbrev pub SmallAnswer : Result Edited Refusal → Type 0
SmallAnswer (Ok e) = (e.bytes ≤ 4_294_967_295) × (e.lines ≤ 4_294_967_295) × (e.tokens ≤ 4_294_967_295)
SmallAnswer (Err r) = Unit {0}

-- the history on paper, from the empty text and the fresh page of what was lent: with its replies, the last of which is this one, and what
-- is lent at the end
pub record Happened (q : Lent) (es : List Edit) (reply : Reply) (last : Lent) : Type 0 where
  pub replies : List Reply
  pub agrees : Agrees (sizes q) [] (fresh_lent q) es replies last
  pub last-is : reply ≡ last_reply replies
