-- `State::levels_within` meets its contract.
use Rattle.std.proofs.Common.{ℕ, ◌≡◌, ◌+◌, ◌-◌, List, ltb, take, arith, ap, sym, ◌∙◌}
use borrow.Author.Tests.{lt-ltb, le-ltb}
use Rattle.rules.specs.Line.{State}
use Rattle.rules.specs.Lists.{trim_end}
use Rattle.records.proofs.Widths.{fewer, pop_past, pop_stop}
use Rattle.records.proofs.state.State.levels_within.Goals as goal

abbrev widths : State → List ℕ
widths s = s.widths

pub loop-i-preserved : goal.loop-i-preserved
loop-i-preserved c =
    let i = c.self.inside in
    sym (pop_past (ltb c.args.width) i.widths c.loop-i.i (omega (arith, c.loop-i-test.true)) (omega (arith, c.self.told, c.self.invariant.0, c.loop-i.auto)) (lt-ltb c.args.width _ c.if-self-i.false)) ∙ c.loop-i.invariant

pub returns-then-self-i-clause-left : goal.returns-then-self-i-clause-left
returns-then-self-i-clause-left c =
    let i = c.self.inside in
    let v = ap widths c.self.view_is in
    let n : c.loop-i.i - 1 + 1 ≡ c.loop-i.i = omega (arith, c.loop-i-test.true) in
    ap (λ (k : ℕ). take k c.args.self.now.widths) n ∙ ap (take c.loop-i.i) (sym v) ∙ fewer i.levels i.widths c.self.invariant.0 c.self.invariant.1 c.loop-i.i (omega (arith, c.loop-i.auto))
    ∙ sym (pop_stop (ltb c.args.width) i.widths c.loop-i.i (omega (arith, c.loop-i-test.true)) (omega (arith, c.self.told, c.self.invariant.0, c.loop-i.auto)) (le-ltb c.args.width _ c.if-self-i.true))
    ∙ c.loop-i.invariant ∙ ap (trim_end (ltb c.args.width)) v

pub returns-clause-left : goal.returns-clause-left
unfolding trim_end
returns-clause-left c =
    let z : c.loop-i.i ≡ 0 = omega (arith, c.loop-i-test.false) in
    ap (λ (n : ℕ). trim_end (ltb c.args.width) (take n c.self.inside.widths)) (sym z) ∙ c.loop-i.invariant ∙ ap (λ (s : State). trim_end (ltb c.args.width) s.widths) c.self.view_is
