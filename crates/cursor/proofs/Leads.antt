-- The words of what stands at a line's start: an Indent, or Dedents one after the other.
-- Assumes nothing.
use Prim.Native.Nat.{ℕ, zero, suc, ◌+◌, ◌*◌}
use mathlib.Core.Path.{◌≡◌, refl, sym, ap, ◌∙◌}
use mathlib.Core.List.{List, [], ◌∷◌, ◌++◌}
use native.Mathlib.Numerals.{add-one}
use lib.ListN.{length, length-replicate}
use Rattle.rules.specs.Kinds.{indent, dedent}
use Rattle.rules.specs.Line.{Token, token_at, dedents}
use Rattle.rules.specs.Records.{token_size, token_words}
use Rattle.rules.proofs.RecordLaws.{length_token_words}
use Rattle.records.specs.Words.{words_at}
use Rattle.records.specs.declared.Place.{Place}

module _ (place : Place) where
  abbrev words : (ts : List Token) → List ℕ
  words ts = token_words place.start (place.line + 1) ts

  pub indent_words : words (token_at indent 0 0 ∷ []) ≡ words_at place 0 indent 0
  unfolding token_words
  indent_words = refl

  pub dedent_words : (j : ℕ) → words (dedents j) ++ words_at place 0 dedent 0 ≡ words (dedents (j + 1))
  unfolding token_words
  dedent_words j = go j ∙ ap (λ (n : ℕ). words (dedents n)) (sym (add-one j))
    where
      go : (i : ℕ) → words (dedents i) ++ words_at place 0 dedent 0 ≡ words (dedents (suc i))
      go zero = refl
      go (suc i) = rw (go i)

  pub length_dedent_words : (j : ℕ) → length (words (dedents j)) ≡ token_size * j
  length_dedent_words j = length_token_words place.start (place.line + 1) (dedents j) ∙ ap (λ (n : ℕ). token_size * n) (length-replicate j (token_at dedent 0 0))
