-- `State::open_level` meets its contract.
use Rattle.std.proofs.Common.{ℕ, List, [], ◌∷◌, ◌++◌, arith, ap, ◌∙◌}
use Rattle.rules.specs.Line.{State}
use Rattle.records.proofs.Widths.{levels_are, opened, opened_held}
use Rattle.records.proofs.state.State.open_level.Goals as goal

pub invariant_of-self : goal.invariant_of-self
invariant_of-self c =
    let i = c.self.inside in
    let n = levels_are i.levels i.widths c.self.invariant.0 c.self.invariant.1 _ (ap (λ (s : State). s.widths) c.self.view_is) in
    (omega (arith, n), opened_held i.levels i.widths c.self.invariant.0 c.self.invariant.1 c.args.width (omega (arith, n)))

pub returns : goal.returns
returns c =
    let i = c.self.inside in
    let e = c.self.view_is in
    let v = ap (λ (s : State). s.widths) e in
    let n = levels_are i.levels i.widths c.self.invariant.0 c.self.invariant.1 _ v in
    let w = opened i.levels i.widths c.self.invariant.0 c.self.invariant.1 c.args.width (omega (arith, n)) ∙ ap (λ (l : List ℕ). l ++ (c.args.width ∷ [])) v in
    λ x. record { depth = (e x).depth; arrow = (e x).arrow; widths = w x }
