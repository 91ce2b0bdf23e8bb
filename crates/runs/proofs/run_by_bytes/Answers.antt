-- `runs::run_by_bytes` meets its contract. What is left of the line, from i on, ends its run where the whole does.
use mathlib.Core.Path.{refl}
use native.Mathlib.Omega.{arith}
use Rattle.rules.proofs.ListLaws.{run_end}
use Rattle.tables.specs.Bytes.{reaches}
use Rattle.tables.specs.Named.{run_number}
use Rattle.runs.proofs.ReachLaws.{run-stops, run_goes}
use Rattle.runs.proofs.run_by_bytes.Goals as goal

pub loop-i-init : goal.loop-i-init
loop-i-init c = (omega arith, refl)

pub returns-then-ends_run-ne0 : goal.returns-then-ends_run-ne0
returns-then-ends_run-ne0 c =
    let a = c.args in
    run-stops (reaches (run_number a.which)) a.line.now c.loop-i.i c.loop-i-test.true c.ends_run.ensures c.loop-i.invariant.1 c.if-ends_run-ne0.true

pub loop-i-preserved : goal.loop-i-preserved
loop-i-preserved c =
    let a = c.args in
    (omega arith, run_goes (reaches (run_number a.which)) a.line.now c.loop-i.i c.loop-i-test.true c.ends_run.ensures c.loop-i.invariant.1 c.if-ends_run-ne0.false)

pub returns : goal.returns
returns c =
    let a = c.args in
    omega (arith, run_end (reaches (run_number a.which)) a.line.now c.loop-i.i c.loop-i-test.false)
