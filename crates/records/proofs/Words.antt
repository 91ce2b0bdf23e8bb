-- The state in a line record, word by word.
-- Assumes nothing.
use Prim.Native.Nat.{ℕ, suc, ◌+◌, ◌*◌, ◌≤◌, ◌<◌}
use mathlib.Core.Path.{◌≡◌, refl, sym, ap, ◌∙◌}
use mathlib.Core.Bool.{Bool, true, false, not}
use mathlib.Core.List.{List, ◌∷◌}
use native.Mathlib.Omega.{arith}
use lib.Dec.{eqb}
use lib.ListN.{length, get_or, take, drop}
use lib.Seq.{drop-cons}
use Rattle.rules.specs.Lists.{bit}
use Rattle.rules.specs.Line.{State}
use Rattle.rules.specs.Limits.{max_levels}
use Rattle.rules.specs.Records.{width_words, line_size, packed, state_words}
use Rattle.rules.proofs.StateLaws.{unpacked}
use Rattle.records.specs.Words.{state_in, state_from}

module _ (lines : List ℕ) (j : ℕ) (h : line_size * (j + 1) ≤ length lines) (z : State) where
  abbrev at : ℕ
  at = line_size * j + 2

  pub state-words : state_in lines j ≡ get_or lines at 0 ∷ get_or lines (at + 1) 0 ∷ get_or lines (at + 2) 0 ∷ take width_words (drop (at + 3) lines)
  state-words = go at (omega arith)
    where
      cons : (i k : ℕ) → k ≡ suc i → i < length lines → drop i lines ≡ get_or lines i 0 ∷ drop k lines
      cons i k e l = drop-cons lines i 0 l ∙ ap (λ (n : ℕ). get_or lines i 0 ∷ drop n lines) (sym e)

      go : (i : ℕ) → i + 3 ≤ length lines → take (3 + width_words) (drop i lines) ≡ get_or lines i 0 ∷ get_or lines (i + 1) 0 ∷ get_or lines (i + 2) 0 ∷ take width_words (drop (i + 3) lines)
      go i l =
          ap (take (3 + width_words)) (cons i (i + 1) (omega arith) (omega arith)) ∙ ap (λ (x : List ℕ). get_or lines i 0 ∷ take (2 + width_words) x) (cons (i + 1) (i + 2) (omega arith) (omega arith))
          ∙ ap (λ (x : List ℕ). get_or lines i 0 ∷ get_or lines (i + 1) 0 ∷ take (1 + width_words) x) (cons (i + 2) (i + 3) (omega arith) (omega arith))

arrow-back : (b : Bool) → not (eqb (bit b) 0) ≡ b
arrow-back true = refl
arrow-back false = refl

-- the state from its words
pub state-from : (lines : List ℕ) (i : ℕ) (z : State) → line_size * (i + 1) ≤ length lines → length z.widths ≤ max_levels → state_in lines i ≡ state_words z → state_from lines i ≡ z
unfolding state_words
state-from lines i z h few e =
    let w : get_or lines (at lines i h z) 0 ∷ get_or lines (at lines i h z + 1) 0 ∷ get_or lines (at lines i h z + 2) 0 ∷ take width_words (drop (at lines i h z + 3) lines)
    ≡ z.depth ∷ bit z.arrow ∷ length z.widths ∷ packed z.widths = sym (state-words lines i h z) ∙ e in
    let d : get_or lines (at lines i h z) 0 ≡ z.depth = cc in
    let a : get_or lines (at lines i h z + 1) 0 ≡ bit z.arrow = cc in
    let l : get_or lines (at lines i h z + 2) 0 ≡ length z.widths = cc in
    let p : take width_words (drop (at lines i h z + 3) lines) ≡ packed z.widths = cc in
    let a2 : not (eqb (get_or lines (at lines i h z + 1) 0) 0) ≡ z.arrow = ap (λ (x : ℕ). not (eqb x 0)) a ∙ arrow-back z.arrow in
    let w2 : take (get_or lines (at lines i h z + 2) 0) (take width_words (drop (at lines i h z + 3) lines)) ≡ z.widths = (λ x. take (l x) (p x)) ∙ unpacked z.widths few in
    λ x. record { depth = d x; arrow = a2 x; widths = w2 x }
