-- `utf8::well_formed_prefix` meets its contract. The loop's invariant: `i` is reached by whole scalars.
use native.Mathlib.Omega.{arith}
use Rattle.utf8.proofs.PassLaws.{none_passed, and_then, stopped, ended}
use Rattle.utf8.proofs.well_formed_prefix.Goals as goal

pub loop-i-init : goal.loop-i-init
loop-i-init c = none_passed (omega arith)

pub returns-then-next-i : goal.returns-then-next-i
returns-then-next-i c = stopped c.loop-i.invariant c.pass_block-next.ensures c.if-next-i.true

pub loop-i-preserved : goal.loop-i-preserved
loop-i-preserved c = and_then c.loop-i.invariant c.pass_block-next.ensures.reached

pub returns : goal.returns
returns c = ended c.loop-i.invariant c.pass_scalars.ensures
