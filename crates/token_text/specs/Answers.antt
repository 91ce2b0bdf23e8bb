-- The answers about a token's text, in the document's values.
-- Assumes nothing.
use Rattle.std.specs.Prelude.{ℕ, ◌+◌, ◌≤◌, ◌≡◌, List, [], ◌∷◌, length, get_or, Result, Ok, Err}
use Rattle.std.proofs.Math.Option.{Option, none, some}
use Rattle.rules.specs.Replies as RulesReplies
use Rattle.rules.specs.Replies.{numbered, text_buffer, names_buffer}
use Rattle.rules.specs.Page.{Page}
use Rattle.rules.specs.TokenText.{names_size, token_word}
use Rattle.refusals.specs.Unreads.{refusal_of}
use Rattle.refusals.specs.declared.Refusal.{Refusal}
use Rattle.token_text.specs.declared.Granted.{Granted}
use Rattle.token_text.specs.declared.Part.{Part}
use Rattle.token_text.specs.declared.Part.TheVariants.{Text, Names}

-- the buffer, the start and the size
abbrev pub part_values : Part → List ℕ
part_values (Text start size) = text_buffer ∷ start ∷ size ∷ []
part_values (Names start size) = names_buffer ∷ start ∷ size ∷ []

-- the refusal of an answer
abbrev pub refused_by : {A : Type 0} → Result A Refusal → Option RulesReplies.Refusal
refused_by (Ok x) = none
refused_by (Err r) = some (refusal_of r)

-- the number of an answer: 0, or the refusal's
abbrev pub number_by : {A : Type 0} → Result A Refusal → ℕ
number_by (Ok x) = 0
number_by (Err r) = get_or (numbered (refusal_of r)) 0 0

-- what is known of token i where no test refuses: these are the words of its record, and its text lies within the buffers
pub record IsGranted (pg : Page) (i names : ℕ) (t : Granted) : Type 0 where
  pub kind-is : t.kind ≡ token_word pg i 0
  pub position-is : t.position ≡ token_word pg i 1
  pub size_is : t.size ≡ token_word pg i 2
  pub in_text : t.position + t.size ≤ length pg.text
  pub in_names : names_size ≤ names
