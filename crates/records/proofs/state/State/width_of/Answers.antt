-- `State::width_of` meets its contract.
use Rattle.std.proofs.Common.{ℕ, List, take, Option, unwrap_or, arith, ap, sym, ◌∙◌}
use Rattle.rules.specs.Line.{State}
use Rattle.rules.specs.Lists.{last_d}
use Rattle.records.proofs.Widths.{levels_are, fewer, last_or}
use Rattle.records.proofs.state.State.width_of.Goals as goal

pub returns : goal.returns
returns c =
    let i = c.self.inside in
    let n = levels_are i.levels i.widths c.self.invariant.0 c.self.invariant.1 _ (ap (λ (s : State). s.widths) c.self.view_is) in
    c.unwrap_or.ensures ∙ ap (λ (o : Option ℕ). unwrap_or o 0) (c.copied.ensures ∙ c.last.ensures.value) ∙ last_or _
    ∙ ap (λ (l : List ℕ). last_d l 0) (sym (fewer i.levels i.widths c.self.invariant.0 c.self.invariant.1 c.args.levels (omega (arith, n))))
    ∙ ap (λ (s : State). last_d (take c.args.levels s.widths) 0) c.self.view_is
