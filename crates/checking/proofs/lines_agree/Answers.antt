-- `checking::lines_agree` meets its contract.
use Rattle.std.proofs.Common.{◌∙◌, arith}
use Rattle.checking.proofs.Lines.{held-start, far, goes-on, smaller, other-count, other-total, end_is}
use Rattle.checking.proofs.Next.{fails}
use Rattle.checking.proofs.lines_agree.Goals as goal

pub loop-place-init : goal.loop-place-init
loop-place-init c = held-start _ _ _ _ c.initial-state.ensures

pub next_held-requires-clause-start_in_bounds : goal.next_held-requires-clause-start_in_bounds
next_held-requires-clause-start_in_bounds c = (c.loop-place-test.true, c.requires.text_bound)

pub next_held-requires-clause-few : goal.next_held-requires-clause-few
next_held-requires-clause-few c =
    let b = far c.loop-place.invariant c.args.limits.few c.requires.text_bound in
    (b.1, (omega (arith, b), b.3))

pub returns-in_default : goal.returns-in_default
returns-in_default c =
    fails c.loop-place.invariant c.loop-place-test.true c.args.count c.args.total c.requires.sizes c.new-line_sink.ensures c.new-token_sink.ensures c.in_default.ensures

pub overflow_add-place : goal.overflow_add-place
overflow_add-place c = omega (arith, far c.loop-place.invariant c.args.limits.few c.requires.text_bound)

pub overflow_add-place-in-loop-place : goal.overflow_add-place-in-loop-place
overflow_add-place-in-loop-place c =
    let x = c.in-Some.ensures in
    omega (arith, far (goes-on c.loop-place.invariant c.loop-place-test.true c.in-Some.next x.0 x.1 x.2) c.args.limits.few c.requires.text_bound)

pub overflow_cast-place-in-loop-place : goal.overflow_cast-place-in-loop-place
overflow_cast-place-in-loop-place c =
    let x = c.in-Some.ensures in
    omega (arith, far (goes-on c.loop-place.invariant c.loop-place-test.true c.in-Some.next x.0 x.1 x.2) c.args.limits.few c.requires.text_bound)

pub loop-place-smaller : goal.loop-place-smaller
loop-place-smaller c = omega (arith, smaller c.loop-place.invariant c.loop-place-test.true c.in-Some.next c.in-Some.ensures.0, c.loop-place-test.true)

pub loop-place-preserved : goal.loop-place-preserved
loop-place-preserved c = let x = c.in-Some.ensures in goes-on c.loop-place.invariant c.loop-place-test.true c.in-Some.next x.0 x.1 x.2

pub returns-then-place-count : goal.returns-then-place-count
returns-then-place-count c =
    other-count c.loop-place.invariant c.args.count c.args.total c.requires.sizes c.new-line_sink.ensures c.new-token_sink.ensures c.loop-place-test.false
    (λ e. omega (arith, c.if-place-count.true, e))

pub overflow_add-place-2 : goal.overflow_add-place-2
overflow_add-place-2 c = omega (arith, c.levels.ensures.few, far c.loop-place.invariant c.args.limits.few c.requires.text_bound)

pub returns-then-place-levels : goal.returns-then-place-levels
returns-then-place-levels c =
    other-total c.loop-place.invariant c.args.count c.args.total c.requires.sizes c.new-line_sink.ensures c.new-token_sink.ensures c.loop-place-test.false c.levels.ensures.value c.if-place-levels.true

pub put_end-requires-clause-end_bound : goal.put_end-requires-clause-end_bound
put_end-requires-clause-end_bound c =
    let b = far c.loop-place.invariant c.args.limits.few c.requires.text_bound in
    (b.0, (omega (arith, b), omega (arith, b)))

pub returns : goal.returns
returns c =
    let x = c.put_end.ensures in
    c.both_same.ensures
    ∙ end_is c.loop-place.invariant c.args.count c.args.total c.requires.sizes c.new-line_sink.ensures c.new-token_sink.ensures c.loop-place-test.false
    c.levels.ensures.value (omega (arith, c.if-place-count.false)) c.if-place-levels.false x.line_taken x.tokens_taken
