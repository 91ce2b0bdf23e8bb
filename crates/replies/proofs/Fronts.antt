-- Words at the front of a reply.
use Rattle.std.specs.Prelude.{ℕ, ◌+◌, ◌≤◌, ◌≡◌, List, ◌++◌, length}
use mathlib.Core.Path.{sym, ap}
use lib.ListN.{take, drop}
use native.Mathlib.Omega.{arith}
use Rattle.std.proofs.lemmas.List.{length-take}
use Rattle.std.proofs.lemmas.List.Edits.{sets, sets-eq}

-- a copy over the first n words puts the copied ones there
pub front : (n : ℕ) (words reply copy : List ℕ) → copy ≡ words → length copy ≡ length (take n reply) → n ≤ length reply → copy ++ drop n reply ≡ sets reply 0 words
front n words reply copy same long room =
    let is : n ≡ 0 + length words = omega (arith, ap length same, long, length-take n reply) in
    rw (same, is) (sym (sets-eq words reply 0 (omega (arith, is))))
