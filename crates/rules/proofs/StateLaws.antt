-- Equal states, by their fields and by their words.
-- Assumes nothing.
use Prim.Native.Nat.{ℕ, ◌≤◌}
use mathlib.Core.Path.{◌≡◌, refl, sym, ◌∙◌}
use mathlib.Core.Bool.{Bool, true, false, ◌&&◌, beq, false≢true}
use mathlib.Core.List.{List, [], ◌∷◌, ◌++◌}
use native.Mathlib.Omega.{arith}
use lib.ListN.{length, take, replicate}
use lib.Seq.{take_at, take-take}
use lib.Dec.{eqb}
use borrow.Author.Tests.{eqb-true, eq-eqb}
use Rattle.rules.specs.Lists.{same, bit}
use Rattle.rules.specs.Line.{State}
use Rattle.rules.specs.Limits.{max_levels}
use Rattle.rules.specs.Records.{width_words, packed, state_words}
use Rattle.rules.specs.StopRule.{same_state}
use Rattle.rules.proofs.ListLaws.{and-true}

pub same_true : (xs ys : List ℕ) → same xs ys ≡ true → xs ≡ ys
unfolding same
same_true [] [] h = refl
same_true [] (y ∷ ys) h = absurd (false≢true h)
same_true (x ∷ xs) [] h = absurd (false≢true h)
same_true (x ∷ xs) (y ∷ ys) h =
    let k = and-true (eqb x y) (same xs ys) h in
    λ i. eqb-true x y k.0 i ∷ same_true xs ys k.1 i

pub same_refl : (xs : List ℕ) → same xs xs ≡ true
unfolding same
same_refl [] = refl
same_refl (x ∷ xs) = rw (eq-eqb x x refl) (same_refl xs)

beq_true : (a b : Bool) → beq a b ≡ true → a ≡ b
beq_true true true h = refl
beq_true true false h = absurd (false≢true h)
beq_true false true h = absurd (false≢true h)
beq_true false false h = refl

beq_refl : (a : Bool) → beq a a ≡ true
beq_refl true = refl
beq_refl false = refl

pub same_state_true : (s z : State) → same_state s z ≡ true → s ≡ z
unfolding same_state
same_state_true s z h =
    let a = and-true (eqb s.depth z.depth) (beq s.arrow z.arrow && same s.widths z.widths) h in
    let b = and-true (beq s.arrow z.arrow) (same s.widths z.widths) a.1 in
    let h0 : s.depth ≡ z.depth = eqb-true s.depth z.depth a.0 in
    let h1 : s.arrow ≡ z.arrow = beq_true s.arrow z.arrow b.0 in
    let h2 : s.widths ≡ z.widths = same_true s.widths z.widths b.1 in
    λ i. record { depth = h0 i; arrow = h1 i; widths = h2 i }

pub same_state-refl : (s : State) → same_state s s ≡ true
unfolding same_state
same_state-refl s = rw (eq-eqb s.depth s.depth refl, beq_refl s.arrow) (same_refl s.widths)

-- States with no more levels than a line record holds: equal words are equal states.

pub unpacked : (ws : List ℕ) → length ws ≤ max_levels → take (length ws) (packed ws) ≡ ws
unfolding packed
unpacked ws h = take-take (length ws) width_words (ws ++ replicate width_words 0) h ∙ take_at ws (replicate width_words 0) (length ws) refl

-- as many widths in the same words are the same widths
pub packed_injective : (ws zs : List ℕ) → length ws ≤ max_levels → length zs ≤ max_levels → length ws ≡ length zs → packed ws ≡ packed zs → ws ≡ zs
packed_injective ws zs hw hz n e = sym (unpacked ws hw) ∙ (λ i. take (n i) (e i)) ∙ unpacked zs hz

bit_injective : (a b : Bool) → bit a ≡ bit b → a ≡ b
bit_injective true true h = refl
bit_injective true false h = absurd (omega arith)
bit_injective false true h = absurd (omega arith)
bit_injective false false h = refl

pub words_injective : (s z : State) → length s.widths ≤ max_levels → length z.widths ≤ max_levels → state_words s ≡ state_words z → s ≡ z
unfolding state_words
words_injective s z os oz e =
    let h0 : s.depth ≡ z.depth = cc in
    let h1 : s.arrow ≡ z.arrow = bit_injective s.arrow z.arrow (cc) in
    let h2 : s.widths ≡ z.widths = packed_injective s.widths z.widths os oz (cc) (cc) in
    λ i. record { depth = h0 i; arrow = h1 i; widths = h2 i }

-- so the stop rule's test may compare words
pub same_state-words : (s z : State) → length s.widths ≤ max_levels → length z.widths ≤ max_levels → same_state s z ≡ same (state_words s) (state_words z)
same_state-words s z os oz = go (same_state s z) (same (state_words s) (state_words z)) refl refl
  where
    go : (a b : Bool) → same_state s z ≡ a → same (state_words s) (state_words z) ≡ b → a ≡ b
    go true true ea eb = refl
    go true false ea eb = absurd (false≢true (sym eb ∙ (rw (same_state_true s z ea) (same_refl (state_words z)))))
    go false true ea eb =
        absurd (false≢true (sym ea ∙ (rw (words_injective s z os oz (same_true (state_words s) (state_words z) eb)) (same_state-refl z))))
    go false false ea eb = refl
