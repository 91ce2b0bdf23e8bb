-- `State::load` meets its contract.
use Rattle.std.proofs.Common.{ℕ, ◌≡◌, ◌+◌, ◌-◌, ◌≤◌, ap, sym, ◌∙◌, List, take, drop, eqb, get_or, not, length, replicate, arith}
use Rattle.std.proofs.Math.Seq.{length-take-le, take-take}
use Rattle.rules.specs.Records.{width_words}
use Rattle.records.specs.States.{state_levels}
use Rattle.records.proofs.Widths.{loaded_levels, loaded_held}
use Rattle.records.proofs.state.State.load.Goals as goal

abbrev none : List ℕ
none = replicate width_words 0

count : (n : ℕ) (xs : List ℕ) → n ≤ width_words → length xs ≡ length (take n none) → length xs ≡ n
count n xs h e = e ∙ length-take-le n none h

-- the widths of n levels among the words from an index on
level_words : (at : ℕ) (ws : List ℕ) (n : ℕ) → n ≤ width_words → take (at + 3 + n - (at + 3)) (drop (at + 3) ws) ≡ take n (take width_words (drop (at + 3) ws))
level_words at ws n h =
    let e : at + 3 + n - (at + 3) ≡ n = omega arith in
    ap (λ (k : ℕ). take k (drop (at + 3) ws)) e ∙ sym (take-take n width_words (drop (at + 3) ws) h)

pub invariant_of-result : goal.invariant_of-result
invariant_of-result c = (c.requires.few, loaded_held _ _ c.requires.few (count _ c.copy_from_slice.new.self c.requires.few c.copy_from_slice.ensures.len))

pub returns : goal.returns
returns c =
    let a = c.args in
    let w = loaded_levels _ _ c.requires.few (count _ c.copy_from_slice.new.self c.requires.few c.copy_from_slice.ensures.len)
    ∙ c.copy_from_slice.ensures.after ∙ level_words a.at a.words.now (state_levels a.words.now a.at) c.requires.few in
    λ x. record { depth = get_or a.words.now a.at 0; arrow = not (eqb (get_or a.words.now (a.at + 1) 0) 0); widths = w x }
