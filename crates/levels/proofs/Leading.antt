-- What stands at a line's start, by cases.
-- Assumes nothing.
use Rattle.std.proofs.Common.{◌≤◌, length, arith}
use lib.ListN.{length-replicate}
use Rattle.rules.specs.Limits.{max_levels}
use Rattle.rules.specs.Line.{token_at}
use Rattle.levels.specs.Levels.{leading, Within}
use Rattle.levels.specs.declared.Lead.{Lead}
use Rattle.levels.specs.declared.Lead.TheVariants.{Indent, Dedents}
use Rattle.std.specs.Prelude.{Ok}

pub lead_le : (lead : Lead) → Within (Ok lead) → length (leading lead) ≤ max_levels
lead_le Indent h = omega arith
lead_le (Dedents n) h = omega (arith, length-replicate n (token_at 91 0 0))
