-- Reading on where no tail is kept is reading to the end.
-- Assumes nothing.
use Prim.Native.Nat.{ℕ, ◌+◌}
use mathlib.Core.List.{List}
use native.Mathlib.Omega.{arith}
use lib.ListN.{length}
use Rattle.std.specs.Prelude.{Ok}
use Rattle.rules.specs.Limits.{LineLimits}
use Rattle.rules.specs.Line.{State}
use Rattle.records.specs.declared.Counts.{Counts}
use Rattle.rereading.specs.Rereads.{RereadIs}
use Rattle.rereading.specs.declared.Reached.TheVariants.{Stop}

pub no_stop : {lim : LineLimits} {t old : List ℕ} {base i : ℕ} {z : State} (left : State) (c : Counts) (j : ℕ) → RereadIs lim t old base i 0 0 0 (base + length t) z left (Ok (Stop c j)) → ⊥
no_stop left c j x = omega (arith, x.1.0, x.1.1.1.0)
