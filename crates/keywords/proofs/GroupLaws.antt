-- A search through the spellings of one first letter finds what the whole search finds.
-- Assumes nothing.
use Prim.Native.Nat.{ℕ}
use mathlib.Core.Path.{◌≡◌, refl, sym, ap, ◌∙◌}
use mathlib.Core.Bool.{Bool, true, false}
use mathlib.Core.List.{List, [], ◌∷◌}
use borrow.Author.Tests.{eqb-false}
use Rattle.std.specs.Prelude.{if◌then◌else◌}
use Rattle.rules.specs.Lists.{same}
use Rattle.rules.specs.Tables.{Spelling, word_kind}
use Rattle.rules.proofs.StateLaws.{same_true}
use Rattle.tables.specs.Keywords.{keep, only, letter_of, of_letter}

-- A search that takes the first spelling of a list which passes a test: those that do not pass may be left out.
module _ {A : Type 0} (found : List Spelling → A) (takes : Spelling → Bool) (gives : Spelling → A)
    (step : (k : Spelling) (ks : List Spelling) → found (k ∷ ks) ≡ (if takes k then gives k else found ks))
    (f : Spelling → Bool) (out : (k : Spelling) → f k ≡ false → takes k ≡ false) where
  found-only : (ks : List Spelling) → found (only f ks) ≡ found ks
  unfolding keep only
  found-only [] = refl
  found-only (k ∷ ks) = go (f k) refl (found-only ks)
    where
      go : (b : Bool) → f k ≡ b → found (only f ks) ≡ found ks → found (keep b k (only f ks)) ≡ found (k ∷ ks)
      go true e r = step k (only f ks) ∙ rw r (sym (step k ks))
      go false e r = r ∙ sym (step k ks ∙ rw (out k e))

-- Words.

pub same_not : (p w : List ℕ) → (p ≡ w → ⊥) → same p w ≡ false
same_not p w h = go (same p w) refl
  where
    go : (b : Bool) → same p w ≡ b → b ≡ false
    go false e = refl
    go true e = absurd (h (same_true p w e))

-- by the first letter
pub word_of_letter : (w : List ℕ) (ks : List Spelling) → word_kind (of_letter (letter_of w) ks) w ≡ word_kind ks w
unfolding of_letter word_kind
word_of_letter w =
    found-only (λ ks. word_kind ks w) (λ k. same k.bytes w) (λ k. k.kind) (λ k ks. refl) _
    (λ k e. same_not k.bytes w (λ q. eqb-false _ _ e (ap letter_of q)))
