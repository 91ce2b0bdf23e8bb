-- `State::close_levels` meets its contract.
use Rattle.std.proofs.Common.{ℕ, take_all, ◌≡◌, ◌-◌, List, length, length-drop, take, drop, replicate, arith, ap, ◌∙◌}
use borrow.Rule.Slice.PartMut.{mid_of}
use Rattle.rules.specs.Line.{State}
use Rattle.rules.specs.Records.{width_words}
use Rattle.records.proofs.Widths.{zeros_from, levels_are, closed, closed_held}
use Rattle.records.proofs.state.State.close_levels.Goals as goal

abbrev widths : State → List ℕ
widths s = s.widths

zeros : (k : ℕ) (ws zs : List ℕ) → length ws ≡ width_words → zs ≡ replicate (length (mid_of k (width_words - k) ws)) 0 → zs ≡ zeros_from k
zeros k ws zs h e =
    e ∙ ap (λ (n : ℕ). replicate n 0) (ap length (take_all (width_words - k) (drop k ws) (omega (arith, length-drop k ws, h))) ∙ length-drop k ws ∙ ap (λ (n : ℕ). n - k) h)

pub invariant_of-self : goal.invariant_of-self
invariant_of-self c =
    let i = c.self.inside in
    let n = levels_are i.levels i.widths c.self.invariant.0 c.self.invariant.1 _ (ap widths c.self.view_is) in
    (omega (arith, n), closed_held i.levels i.widths c.self.invariant.0 c.self.invariant.1 c.args.left (omega (arith, n)) c.fill.new.self (zeros c.args.left i.widths _ c.self.told (c.fill.ensures.after (λ y h. h))))

pub returns : goal.returns
returns c =
    let i = c.self.inside in
    let e = c.self.view_is in
    let n = levels_are i.levels i.widths c.self.invariant.0 c.self.invariant.1 _ (ap widths e) in
    let w = closed i.levels i.widths c.self.invariant.0 c.self.invariant.1 c.args.left (omega (arith, n)) c.fill.new.self (zeros c.args.left i.widths _ c.self.told (c.fill.ensures.after (λ y h. h)))
    ∙ ap (λ (s : State). take c.args.left s.widths) e in
    λ x. record { depth = (e x).depth; arrow = (e x).arrow; widths = w x }
