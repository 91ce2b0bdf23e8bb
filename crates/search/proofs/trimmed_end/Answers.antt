-- `search::trimmed_end` meets its contract.
use native.Mathlib.Omega.{arith}
use Rattle.rules.specs.Tables.{is_cr}
use Rattle.search.proofs.Library.{trim-suffix}
use Rattle.search.proofs.trimmed_end.Goals as goal

pub overflow_sub-result : goal.overflow_sub-result
unfolding is_cr
overflow_sub-result c = omega (arith, c.trailing_crs.ensures, trim-suffix is_cr c.args.line.now)

pub returns : goal.returns
unfolding is_cr
returns c = omega (arith, c.trailing_crs.ensures, trim-suffix is_cr c.args.line.now)
