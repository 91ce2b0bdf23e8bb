-- An answer in the document's words: 0 and its values, or the number and values of a refusal.
-- Assumes nothing.
use Rattle.std.specs.Prelude.{ℕ, List, Option, Some, None, Result, Ok, Err}
use Rattle.std.proofs.Math.Option as math
use Rattle.rules.specs.Replies.{Reply, accepted, numbered, numbered_unread}
use Rattle.refusals.specs.declared.Unread.{Unread}
use Rattle.refusals.specs.declared.Refusal.{Refusal}
use Rattle.refusals.specs.Unreads.{unread_of, refusal_of}

-- of a call
abbrev pub reply_of : {A : Type 0} → (values : A → List ℕ) → Result A Refusal → Reply
reply_of values (Ok a) = accepted (values a)
reply_of values (Err r) = numbered (refusal_of r)

-- of a call that asks no more of its text than the tests of a text by itself
abbrev pub text_reply_of : {A : Type 0} → (values : A → List ℕ) → Result A Unread → Reply
text_reply_of values (Ok a) = accepted (values a)
text_reply_of values (Err u) = numbered_unread (unread_of u)

-- a value or none, of the code in the rules
abbrev pub option_of : {A : Type 0} → Option A → math.Option A
option_of (Some a) = math.some a
option_of None = math.none
