-- `utf8::pass_scalars` meets its contract. The loop's invariant: `i` is reached by whole scalars.
use native.Mathlib.Omega.{arith}
use Rattle.utf8.proofs.PassLaws.{none_passed, more, no_more, far-enough}
use Rattle.utf8.proofs.pass_scalars.Goals as goal

pub loop-i-init : goal.loop-i-init
loop-i-init c = none_passed (omega arith)

pub returns-then-size-eq0 : goal.returns-then-size-eq0
returns-then-size-eq0 c = no_more c.loop-i.invariant c.scalar_size-size.ensures c.if-size-eq0.true

pub loop-i-preserved : goal.loop-i-preserved
loop-i-preserved c = more c.loop-i.invariant c.scalar_size-size.ensures c.if-size-eq0.false

pub overflow_add-i : goal.overflow_add-i
overflow_add-i c = let r = loop-i-preserved c in omega arith

pub loop-i-smaller : goal.loop-i-smaller
loop-i-smaller c = let r = loop-i-preserved c in omega arith

pub returns : goal.returns
returns c = far-enough c.loop-i.invariant c.loop-i-test.false
