-- Laws of words written over the front of a buffer, as a loop writes them.
-- Assumes nothing.
use Prim.Native.Nat.{ℕ, zero, suc, ◌+◌, ◌≤◌, ◌<◌}
use mathlib.Core.Path.{◌≡◌, refl, sym, ap, ◌∙◌}
use mathlib.Core.List.{List, [], ◌∷◌, ◌++◌, append_assoc}
use native.Mathlib.Omega.{arith}
use native.Mathlib.Numerals.{add-one}
use lib.ListN.{length, get_or, take, drop, set, replicate, length-append, length-drop, length-replicate}
use lib.Seq.{drop-cons, set-append_seam, take_at, drop_at}
use Rattle.rules.specs.Lists.{overwrite}

pub length_overwrite : (xs buffer : List ℕ) → length xs ≤ length buffer → length (overwrite xs buffer) ≡ length buffer
unfolding overwrite
length_overwrite xs buffer h = length-append xs (drop (length xs) buffer) ∙ omega (arith, length-drop (length xs) buffer)

-- one word more
pub overwrite_set : (xs buffer : List ℕ) (x : ℕ) → length xs < length buffer → set (overwrite xs buffer) (length xs) x ≡ overwrite (xs ++ (x ∷ [])) buffer
unfolding overwrite
overwrite_set xs buffer x h =
    let n : length (xs ++ (x ∷ [])) ≡ suc (length xs) = omega (arith, length-append xs (x ∷ [])) in
    ap (λ (r : List ℕ). set (xs ++ r) (length xs) x) (drop-cons buffer (length xs) 0 h)
    ∙ set-append_seam xs (get_or buffer (length xs) 0) (drop (suc (length xs)) buffer) x
    ∙ sym (ap (λ (i : ℕ). (xs ++ (x ∷ [])) ++ drop i buffer) n ∙ append_assoc xs (x ∷ []) (drop (suc (length xs)) buffer))

-- what was written, and what was not
pub overwrite_take : (xs buffer : List ℕ) (n : ℕ) → length xs ≡ n → take n (overwrite xs buffer) ≡ xs
unfolding overwrite
overwrite_take xs buffer n e = take_at xs (drop (length xs) buffer) n e

pub overwrite_drop : (xs buffer : List ℕ) (n : ℕ) → length xs ≡ n → drop n (overwrite xs buffer) ≡ drop n buffer
unfolding overwrite
overwrite_drop xs buffer n e = drop_at xs (drop (length xs) buffer) n e ∙ ap (λ (i : ℕ). drop i buffer) e

zeros : (i : ℕ) → replicate {A = ℕ} i 0 ++ (0 ∷ []) ≡ replicate (suc i) 0
zeros zero = refl
zeros (suc i) = ap (λ (r : List ℕ). 0 ∷ r) (zeros i)

-- one zero more
pub zero_more : (i : ℕ) (buffer : List ℕ) → i < length buffer → set (overwrite (replicate i 0) buffer) i 0 ≡ overwrite (replicate (i + 1) 0) buffer
zero_more i buffer h =
    let n : length (replicate {A = ℕ} i 0) ≡ i = length-replicate i 0 in
    ap (λ (k : ℕ). set (overwrite (replicate i 0) buffer) k 0) (sym n) ∙ overwrite_set (replicate i 0) buffer 0 (omega arith)
    ∙ ap (λ (r : List ℕ). overwrite r buffer) (zeros i ∙ ap (λ (k : ℕ). replicate k 0) (sym (add-one i)))
