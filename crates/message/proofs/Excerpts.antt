-- A line without its LF.
-- Assumes nothing.
use Prim.Native.Nat.{ℕ, suc, ◌+◌, ◌-◌, ◌≤◌}
use mathlib.Core.Path.{◌≡◌, refl, ap, ◌∙◌}
use mathlib.Core.Bool.{Bool, true, false, not}
use mathlib.Core.List.{List, [], ◌∷◌}
use native.Mathlib.Omega.{arith}
use lib.ListN.{length, take, drop, length-drop}
use lib.Seq.{take_all}
use borrow.Author.Tests.{ltb-false}
use Rattle.std.specs.Prelude.{ltb, eqb, cond, Some, None}
use Rattle.std.specs.Option.{unwrap_or}
use Rattle.std.specs.List.{position, prefix_len}
use Rattle.std.proofs.lemmas.List.Sums.{prefix_len-le-length}
use Rattle.rules.specs.Lists.{run}
use Rattle.rules.specs.Reading.{not_lf, content}

prefix_run : (p : ℕ → Bool) (l : List ℕ) → prefix_len p l ≡ run p l
unfolding run
prefix_run p [] = refl
prefix_run p (x ∷ xs) = go (p x) (prefix_run p xs)
  where
    go : (b : Bool) → prefix_len p xs ≡ run p xs → cond b (1 + prefix_len p xs) 0 ≡ elim b [ true ↦ suc (run p xs) | false ↦ 0 ]
    go true e = omega arith
    go false e = refl

-- where the first LF stands, or the end
pub content_end : (l : List ℕ) → unwrap_or (position (λ b. eqb b 10) l) (length l) ≡ run not_lf l
unfolding not_lf
content_end l =
    let p : ℕ → Bool = λ b. not (eqb b 10) in
    let k = prefix_len p l in
    go (ltb k (length l)) refl ∙ prefix_run p l
  where
    go : (b : Bool) → ltb (prefix_len (λ x. not (eqb x 10)) l) (length l) ≡ b → unwrap_or (cond b (Some (prefix_len (λ x. not (eqb x 10)) l)) None) (length l) ≡ prefix_len (λ x. not (eqb x 10)) l
    go true e = refl
    go false e = omega (arith, ltb-false (prefix_len (λ x. not (eqb x 10)) l) (length l) e, prefix_len-le-length (λ x. not (eqb x 10)) l)

-- the rest of a text, cut off where the text ends
pub rest-content : (t : List ℕ) (start : ℕ) → content (take (length t - start) (drop start t)) ≡ content (drop start t)
rest-content t start =
    let e : length (drop start t) ≤ length t - start = omega (arith, length-drop start t) in
    ap content (take_all (length t - start) (drop start t) e)
