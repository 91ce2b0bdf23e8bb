-- `runs::run_end` meets its contract: the run ends at the lowest bit of the mask.
use native.Mathlib.Omega.{arith}
use Rattle.tables.specs.Bytes.{reaches, misses}
use Rattle.tables.specs.Named.{run_number}
use Rattle.runs.proofs.MaskLaws.{run-found, run-left}
use Rattle.runs.proofs.ReachLaws.{missed}
use Rattle.runs.proofs.run_end.Goals as goal

pub returns-then-mask-ne0 : goal.returns-then-mask-ne0
returns-then-mask-ne0 c =
    let w = run_number c.args.which in
    run-found (misses w) (reaches w) (missed w) c.args.line.now c.loop-i.i 4 c.miss_mask-mask.ensures c.loop-i.invariant.1 (omega arith) c.if-mask-ne0.true

pub loop-i-preserved : goal.loop-i-preserved
loop-i-preserved c =
    let w = run_number c.args.which in
    (omega arith, run-left (misses w) (reaches w) (missed w) c.args.line.now c.loop-i.i 4 c.miss_mask-mask.ensures c.loop-i.invariant.1 (omega arith) c.if-mask-ne0.false)
