-- What is said of the barge's limits, of the code's value for them.
-- Assumes nothing.
use Prim.Native.Nat.{◌≤◌}
use mathlib.Core.Path.{◌≡◌, ap}
use native.Mathlib.Omega.{arith}
use Rattle.rules.specs.Limits as RulesLimits
use Rattle.rules.specs.Limits.{max_bytes, max_levels, barge, barge_line}
use Rattle.refusals.specs.Limits.{line_of, limits_of}
use Rattle.refusals.specs.declared.Limits.{Limits}

module _ (l : Limits) (e : limits_of l ≡ barge) where
  pub barge-line : line_of l ≡ barge_line
  barge-line = ap (λ (x : RulesLimits.Limits). x.line) e

  pub barge-fits : (l.bytes ≤ max_bytes) × (l.levels ≤ max_levels)
  barge-fits =
      let b : l.bytes ≡ max_bytes = ap (λ (x : RulesLimits.Limits). x.bytes) e in
      let n : l.levels ≡ max_levels = ap (λ (x : RulesLimits.Limits). x.line.levels) e in
      (omega (arith, b), omega (arith, n))
