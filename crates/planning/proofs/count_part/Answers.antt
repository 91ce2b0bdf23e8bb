-- `planning::count_part` meets its contract. So far the LFs of the first bytes are counted.
use Rattle.std.proofs.Common.{arith, eqb, get_or, take, length-take}
use Rattle.planning.proofs.Starts.{count-more, count-le, byte-bit, bit_le}
use Rattle.planning.proofs.count_part.Goals as goal

pub overflow_add-n : goal.overflow_add-n
overflow_add-n c =
    let part = c.args.part.now in
    let i = c.loop-i.i in
    let lf = eqb (get_or part i 0) 10 in
    omega (arith, c.loop-i.invariant, count-le (take i part), length-take i part, c.loop-i-test.true, c.requires, byte-bit lf, bit_le lf)

pub loop-i-preserved : goal.loop-i-preserved
loop-i-preserved c =
    let part = c.args.part.now in
    let i = c.loop-i.i in
    omega (arith, c.loop-i.invariant, count-more part i c.loop-i-test.true, byte-bit (eqb (get_or part i 0) 10))
