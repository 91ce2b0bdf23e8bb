-- The depth that a token leaves, bounded.
-- Assumes nothing.
use Prim.Native.Nat.{ℕ, zero, suc, ◌+◌, ◌≤◌, pred}
use native.Mathlib.Omega.{arith}
use lib.Dec.{eqb}
use Rattle.rules.specs.Kinds.{l_paren, r_paren}
use Rattle.rules.proofs.ListLaws.{if_by}
use Rattle.cursor.specs.Cursors.{depth_by}

pub depth-by-le : (d kind : ℕ) → depth_by d kind ≤ d + 1
unfolding depth_by
depth-by-le d kind =
    if_by (λ n. n ≤ d + 1) (eqb kind l_paren) (λ _. omega arith) (λ _. if_by (λ n. n ≤ d + 1) (eqb kind r_paren) (λ _. pred_le d) (λ _. omega arith))
  where
    pred_le : (n : ℕ) → pred n ≤ n + 1
    pred_le zero = omega arith
    pred_le (suc n) = omega arith
