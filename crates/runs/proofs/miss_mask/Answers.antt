-- `runs::miss_mask` meets its contract: four bits, each from its own byte.
use native.Mathlib.Omega.{arith}
use Rattle.tables.specs.Bytes.{misses}
use Rattle.tables.specs.Named.{run_number}
use Rattle.runs.proofs.MaskLaws.{four_bits}
use Rattle.runs.proofs.miss_mask.Goals as goal

pub returns : goal.returns
returns c =
    let a = c.args in
    omega (arith, c.ends_run-a.ensures, c.ends_run-b.ensures, c.ends_run-c.ensures, c.ends_run-d.ensures, four_bits (misses (run_number a.which)) a.line.now a.at c.requires)
