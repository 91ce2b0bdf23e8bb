-- `planning::count_lf` meets its contract.
use Rattle.std.proofs.Common.{ap, take, length-take, arith}
use Rattle.rules.specs.Reading.{count_lf}
use Rattle.planning.proofs.Starts.{count_append, count-le}
use Rattle.planning.proofs.count_lf.Goals as goal

pub overflow_add-n : goal.overflow_add-n
overflow_add-n c =
    let s = c.in-Some.ensures.steps in
    let front = take c.args.a c.args.text.now in
    omega (arith, c.loop-part.invariant.1, ap count_lf s.1.0, count_append c.in-Some.part.now c.next.new.self.rest.now, c.count_part.ensures, count-le front, length-take c.args.a c.args.text.now)

pub loop-part-preserved : goal.loop-part-preserved
loop-part-preserved c =
    let s = c.in-Some.ensures.steps in
    (omega (arith, s.0, c.loop-part.invariant.0), omega (arith, c.loop-part.invariant.1, ap count_lf s.1.0, count_append c.in-Some.part.now c.next.new.self.rest.now, c.count_part.ensures))
