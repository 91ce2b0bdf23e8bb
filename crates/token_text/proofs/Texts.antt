-- Reply, text and place of a token, from what the tests come to.
-- Assumes nothing.
use Prim.Native.Nat.{ℕ}
use mathlib.Core.Path.{◌≡◌, ap}
use mathlib.Core.List.{List}
use mathlib.Core.Option.{none, some}
use lib.ListN.{length, get_or}
use Rattle.rules.specs.Replies.{numbered, accepted, first_of, unless}
use Rattle.rules.specs.Page.{Page}
use Rattle.rules.specs.TokenText.{part_by, part_tests, part_of, part_words, part_bytes, token_text_reply, token_text_number, token_text}
use Rattle.refusals.specs.Unreads.{refusal_of}
use Rattle.refusals.specs.declared.Refusal.{Refusal}
use Rattle.token_text.specs.Answers.{IsGranted}
use Rattle.token_text.specs.declared.Granted.{Granted}

module _ (pg : Page) (i : ℕ) where
  module _ (names : ℕ) where
    pub refused : (r : Refusal) → some (refusal_of r) ≡ first_of (part_tests pg i names) → numbered (refusal_of r) ≡ token_text_reply pg i names
    unfolding token_text_reply unless
    refused r e = rw (← e)

    pub accepts : none ≡ first_of (part_tests pg i names) → accepted (part_words (part_of pg i)) ≡ token_text_reply pg i names
    unfolding token_text_reply unless
    accepts e = rw (← e)

    -- the number is the reply's first word
    pub number_is : (reply : List ℕ) → reply ≡ token_text_reply pg i names → get_or reply 0 0 ≡ token_text_number pg i names
    unfolding token_text_number
    number_is reply e = ap (λ (r : List ℕ). get_or r 0 0) e

    pub part-is : (t : Granted) → IsGranted pg i names t → part_by t.kind t.position t.size ≡ part_of pg i
    unfolding part_of
    part-is t g = rw (g.kind-is, g.position-is, g.size_is)

  pub text_lem : (names : List ℕ) → none ≡ first_of (part_tests pg i (length names)) → part_bytes pg.text names (part_of pg i) ≡ token_text pg i names
  unfolding token_text unless
  text_lem names e = rw (← e)
