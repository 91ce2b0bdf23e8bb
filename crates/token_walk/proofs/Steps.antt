-- A step of a walk, by how many words are left.
-- Assumes nothing.
use Prim.Native.Nat.{ℕ, suc, ◌+◌, ◌*◌, ◌≤◌, ◌<◌}
use mathlib.Core.Path.{◌≡◌, refl, ap, ◌∙◌}
use mathlib.Core.Bool.{Bool, true, false}
use mathlib.Core.List.{List, [], ◌∷◌}
use native.Mathlib.Numerals.{add-one}
use native.Mathlib.Omega.{arith}
use lib.ListN.{length, get_or, take, drop}
use lib.Seq.{drop-cons}
use borrow.Author.Tests.{lt-ltb, le-ltb, ltb-false}
use Rattle.std.specs.Prelude.{Option, Some, None, ⊤}
use Rattle.std.specs.Iterator.{MakesProgress, at_most}
use Rattle.rules.specs.Walk.{is_walked, walk_reply}
use Rattle.rules.specs.Records.{token_size}
use Rattle.token_walk.specs.Steps.{record_numbers, step_numbers, tokens_left}
use Rattle.token_walk.specs.declared.TokenRecord.{TokenRecord}
use Rattle.token_walk.specs.declared.TokenWalk.{TokenWalk}

-- the five words from place k on
abbrev words_at : List ℕ → (k : ℕ) → List ℕ
words_at ts k = get_or ts k 0 ∷ get_or ts (k + 1) 0 ∷ get_or ts (k + 2) 0 ∷ get_or ts (k + 3) 0 ∷ get_or ts (k + 4) 0 ∷ []

five-words : (ts : List ℕ) (k : ℕ) → k + 5 ≤ length ts → take 5 (drop k ts) ≡ words_at ts k
five-words ts k h =
    let word : (j j' : ℕ) → j < length ts → suc j ≡ j' → drop j ts ≡ get_or ts j 0 ∷ drop j' ts = λ j j' l e. drop-cons ts j 0 l ∙ ap (λ (n : ℕ). get_or ts j 0 ∷ drop n ts) e in
    rw (word k (k + 1) (omega arith) (omega arith), word (k + 1) (k + 2) (omega arith) (omega arith), word (k + 2) (k + 3) (omega arith) (omega arith), word (k + 3) (k + 4) (omega arith) (omega arith), word (k + 4) (k + 5) (omega arith) (omega arith))

module _ (ts : List ℕ) (i : ℕ) where
  pub done : length ts < token_size * i + 5 → (0 ∷ 0 ∷ i ∷ []) ≡ walk_reply ts i
  unfolding walk_reply is_walked
  done h = rw (lt-ltb (length ts) (token_size * i + 5) h)

  pub goes_on_lem : token_size * i + 5 ≤ length ts → (0 ∷ 1 ∷ (i + 1) ∷ words_at ts (token_size * i)) ≡ walk_reply ts i
  unfolding walk_reply is_walked
  goes_on_lem h = rw (le-ltb (length ts) (token_size * i + 5) h, five-words ts (token_size * i) h, add-one i)

  -- a step that gives a record goes one further, and a record was left
  pub one_further : (after : ℕ) (t : TokenRecord) → step_numbers (after, Some t) ≡ walk_reply ts i → (after ≡ suc i) × (token_size * i + token_size ≤ length ts)
  unfolding walk_reply is_walked
  one_further after t e = go (is_walked ts i) refl
    where
      go : (b : Bool) → is_walked ts i ≡ b → (after ≡ suc i) × (token_size * i + token_size ≤ length ts)
      go true w =
          let h : (0 ∷ 1 ∷ after ∷ record_numbers t) ≡ (0 ∷ 0 ∷ i ∷ []) = e ∙ rw w in
          absurd (omega (arith, ap length h))
      go false w =
          let h : (0 ∷ 1 ∷ after ∷ record_numbers t) ≡ (0 ∷ 1 ∷ suc i ∷ take 5 (drop (token_size * i) ts)) = e ∙ rw w in
          (cc, ltb-false (length ts) (token_size * i + token_size) w)

-- a record of a walk as an iterator leaves fewer
pub nearer : (w : TokenWalk) (after : ℕ) (r : Option TokenRecord) → step_numbers (after, r) ≡ walk_reply w.words.now w.next
    → MakesProgress (λ _. ⊤) (λ v. at_most (tokens_left v)) w r (record { words = w.words; next = after })
nearer w after None e = record { on = λ _. tt; keeps = tt; rests = λ x. tt }
nearer w after (Some t) e =
    let g = one_further w.words.now w.next after t e in
    record { on = λ x. (tt, tt, omega (arith, g.0, g.1)); keeps = tt; rests = λ _. tt }
