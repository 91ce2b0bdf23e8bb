-- The answer of `report`, in the document's numbers and values.
-- Assumes nothing.
use Rattle.std.specs.Prelude.{ℕ, [], ◌∷◌, Result}
use Rattle.rules.specs.Replies.{Reply}
use Rattle.refusals.specs.Replies.{reply_of}
use Rattle.refusals.specs.declared.Refusal.{Refusal}

abbrev pub report_numbers : Result ℕ Refusal → Reply
report_numbers = reply_of (λ n. n ∷ [])
