-- `rereading::read_on` meets its contract.
use Rattle.std.proofs.Common.{arith}
use Rattle.std.proofs.lemmas.Result.{err_from_is_err_and}
use Rattle.rereading.proofs.Loops.{begun, far, finished, next-few, line_room, token_room, stops, goes_on, breaks, smaller}
use Rattle.rereading.proofs.read_on.Goals as goal

pub loop-read-init : goal.loop-read-init
loop-read-init g c = begun c.requires.text_bound c.requires.state_bound g.S.RecordSink.laws

pub overflow_add-here : goal.overflow_add-here
overflow_add-here g c = omega (arith, far c.requires.text_bound c.requires.state_bound c.loop-read.invariant)

pub overflow_add-here-in-loop-read : goal.overflow_add-here-in-loop-read
overflow_add-here-in-loop-read g c = omega (arith, next-few c.requires.text_bound c.requires.state_bound c.loop-read.invariant c.loop-read-test.true c.requires.few)

pub returns-then-stops_at-clause-reread_is : goal.returns-then-stops_at-clause-reread_is
returns-then-stops_at-clause-reread_is g c =
    let n = c.old_line-j.ensures in
    stops c.requires.text_bound c.requires.state_bound c.loop-read.invariant c.loop-read-test.true c.args.limits.few _ n.value n.upper_bound c.stops_at.ensures c.if-stops_at.true

pub next_line-requires-clause-at_in_bounds : goal.next_line-requires-clause-at_in_bounds
next_line-requires-clause-at_in_bounds g c =
    let w = far c.requires.text_bound c.requires.state_bound c.loop-read.invariant in
    let h = c.loop-read-test.true in
    (h, (omega (arith, c.requires.text_bound.0, h), (w.1, next-few c.requires.text_bound c.requires.state_bound c.loop-read.invariant h c.requires.few)))

pub next_line-requires-clause-depth_bound : goal.next_line-requires-clause-depth_bound
next_line-requires-clause-depth_bound g c = omega (arith, far c.requires.text_bound c.requires.state_bound c.loop-read.invariant)

pub next_line-requires-clause-line_room : goal.next_line-requires-clause-line_room
next_line-requires-clause-line_room g c = line_room c.requires.text_bound c.requires.state_bound c.loop-read.invariant c.loop-read-test.true g.S.RecordSink.laws c.requires.line_room

pub next_line-requires-clause-token_room : goal.next_line-requires-clause-token_room
next_line-requires-clause-token_room g c = token_room c.requires.text_bound c.requires.state_bound c.loop-read.invariant c.loop-read-test.true g.S.RecordSink.laws c.requires.token_room

pub returns-in_err-next-clause-reread_is : goal.returns-in_err-next-clause-reread_is
returns-in_err-next-clause-reread_is g c =
    let p = err_from_is_err_and c.from_residual.result c.from_residual.ensures.1 in
    rw (p.1, p.2) (breaks c.requires.text_bound c.requires.state_bound c.loop-read.invariant c.loop-read-test.true c.args.limits.few c.next_line.new.state _ c.in_err-next.ensures.step_is c.next_line.ensures.left)

pub overflow_add-read : goal.overflow_add-read
overflow_add-read g c = omega (arith, far c.requires.text_bound c.requires.state_bound c.loop-read.invariant)

pub overflow_add-read-in-loop-read : goal.overflow_add-read-in-loop-read
overflow_add-read-in-loop-read g c = omega (arith, smaller c.requires.text_bound c.requires.state_bound c.loop-read.invariant c.loop-read-test.true _ c.in_ok-next.ensures.step_is)

pub loop-read-smaller : goal.loop-read-smaller
loop-read-smaller g c = omega (arith, smaller c.requires.text_bound c.requires.state_bound c.loop-read.invariant c.loop-read-test.true _ c.in_ok-next.ensures.step_is)

pub loop-read-preserved : goal.loop-read-preserved
loop-read-preserved g c =
    let n = c.old_line-j.ensures in
    let x = c.next_line.ensures in
    goes_on c.requires.text_bound c.requires.state_bound c.loop-read.invariant c.loop-read-test.true c.args.limits.few _ n.value n.upper_bound g.S.RecordSink.laws
    c.stops_at.ensures c.if-stops_at.false _ c.in_ok-next.ensures.step_is x.line_taken x.tokens_taken

pub returns : goal.returns
returns g c =
    let e = finished c.requires.text_bound c.requires.state_bound c.loop-read.invariant c.args.limits.few c.loop-read-test.false in
    record { reread_is = e.0; taken = e.1 }
