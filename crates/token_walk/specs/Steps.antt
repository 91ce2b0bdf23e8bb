-- The steps of a walk, in the document's numbers and values.
-- Assumes nothing.
use Rattle.std.specs.Prelude.{ℕ, ◌-◌, ◌/◌, ◌≡◌, List, [], ◌∷◌, length, Option, Some, None}
use Rattle.rules.specs.Replies.{Reply}
use Rattle.rules.specs.Records.{token_size}
use Rattle.rules.specs.Walk.{walk_reply}
use Rattle.token_walk.specs.declared.TokenRecord.{TokenRecord}
use Rattle.token_walk.specs.declared.TokenWalk.{TokenWalk}

-- a record in words
abbrev pub record_numbers : TokenRecord → List ℕ
record_numbers t = t.kind ∷ t.position ∷ t.size ∷ t.line ∷ t.column ∷ []

-- a step: 1, the next number and a record; or 0, done, and the number kept
abbrev pub step_numbers : (ℕ × Option TokenRecord) → Reply
step_numbers (next, Some t) = 0 ∷ 1 ∷ next ∷ record_numbers t
step_numbers (number, None) = 0 ∷ 0 ∷ number ∷ []

-- a walk as an iterator: over the same words, each item is that of the step at its number
abbrev pub GivesRecord : TokenWalk → Option TokenRecord → TokenWalk → Type 0
GivesRecord old r new = (new.words ≡ old.words) × (step_numbers (new.next, r) ≡ walk_reply old.words.now old.next)

-- so many records are still to come
abbrev pub tokens_left : TokenWalk → ℕ
tokens_left w = length w.words.now / token_size - w.next
