-- `cursor::behind_token` meets its contract.
use Prim.Native.Nat.{ℕ, ◌+◌}
use mathlib.Core.Path.{ap}
use lib.Dec.{eqb}
use Rattle.rules.specs.Kinds.{implies}
use Rattle.cursor.proofs.behind_token.Goals as goal

pub returns : goal.returns
returns c =
    let a = c.args in
    ap (λ (d : ℕ). record { at = a.t.at + a.size; n = a.t.n + 1; depth = d; arrow = eqb a.kind implies }) c.depth_by.ensures
