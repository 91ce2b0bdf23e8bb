-- The answer of `read`, in the document's numbers and values.
-- Assumes nothing.
use Rattle.std.specs.Prelude.{[], ◌∷◌, Result}
use Rattle.rules.specs.Replies.{Reply}
use Rattle.refusals.specs.Replies.{reply_of}
use Rattle.refusals.specs.declared.Refusal.{Refusal}
use Rattle.records.specs.declared.Counts.{Counts}

abbrev pub read_numbers : Result Counts Refusal → Reply
read_numbers = reply_of (λ c. c.bytes ∷ c.lines ∷ c.tokens ∷ [])
