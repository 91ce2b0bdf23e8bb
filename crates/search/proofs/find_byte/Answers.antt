-- `search::find_byte` meets its contract: no byte before the one that is found is this one.
use Prim.Native.Nat.{ℕ, ◌-◌}
use mathlib.Core.Path.{◌≡◌, refl, ap}
use mathlib.Core.Bool.{Bool, true, false, not}
use mathlib.Core.List.{List}
use native.Mathlib.Omega.{arith}
use lib.ListN.{length, take, drop, length-drop}
use Rattle.rules.specs.Lists.{run}
use Rattle.runs.proofs.Ends.{run-at, run-all}
use Rattle.search.specs.Bytes.{is_other}
use Rattle.search.proofs.Library.{from-at}
use Rattle.search.proofs.find_byte.Goals as goal

passes : (t : Bool) → (t ≡ true → ⊥) → not t ≡ true
passes true h = absurd (h refl)
passes false h = refl

pub returns-in-Some : goal.returns-in-Some
returns-in-Some c =
    let a = c.args in
    let f = is_other a.byte in
    let s = take (length a.line.now - a.at) (drop a.at a.line.now) in
    let found = c.in-Some.ensures in
    let r = run-at f s c.in-Some.i found.0.high (λ j h. passes _ (found.0.before j (omega arith) h)) (ap not found.1) in
    omega (arith, r, ap (λ (t : List ℕ). run f t) (from-at a.line.now a.at))

pub returns-in-None : goal.returns-in-None
returns-in-None c =
    let a = c.args in
    let f = is_other a.byte in
    let s = take (length a.line.now - a.at) (drop a.at a.line.now) in
    let r = run-all f s (λ j h. passes _ (c.in-None.ensures j (omega arith) h)) in
    omega (arith, r, ap (λ (t : List ℕ). run f t) (from-at a.line.now a.at), ap (λ (t : List ℕ). length t) (from-at a.line.now a.at), length-drop a.at a.line.now)
