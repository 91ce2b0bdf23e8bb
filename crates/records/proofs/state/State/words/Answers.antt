-- `State::words` meets its contract.
use Rattle.std.proofs.Common.{◌≡◌, Bool, true, false, [], ◌∷◌, ◌++◌, refl, sym, ap, ◌∙◌, append-nil, length, take}
use mir.Val.{bool_byte}
use Rattle.rules.specs.Lists.{bit}
use Rattle.rules.specs.Records.{packed, state_words}
use Rattle.records.proofs.Widths.{count}
use Rattle.records.proofs.state.State.words.Goals as goal

bit_is : (b : Bool) → bool_byte b ≡ bit b
bit_is true = refl
bit_is false = refl

pub returns : goal.returns
unfolding state_words
returns c =
    let i = c.self.inside in
    let n = count i.levels i.widths c.self.invariant.0 c.self.invariant.1 in
    let w = append-nil c.copy_from_slice.new.self ∙ c.copy_from_slice.ensures.after ∙ c.self.invariant.1 in
    let e : i.depth ∷ bool_byte i.arrow ∷ i.levels ∷ (c.copy_from_slice.new.self ++ []) ≡ i.depth ∷ bit i.arrow ∷ length (take i.levels i.widths) ∷ packed (take i.levels i.widths)
    = λ x. i.depth ∷ bit_is i.arrow x ∷ sym n x ∷ w x in
    e ∙ ap state_words c.self.view_is
