-- Stores that come to a buffer written over from its front.
-- Assumes nothing.
use Prim.Native.Nat.{ℕ, ◌+◌, ◌-◌, ◌≤◌}
use mathlib.Core.Path.{◌≡◌, sym, ap, ◌∙◌}
use mathlib.Core.List.{List, ◌++◌, append_assoc}
use native.Mathlib.Omega.{arith}
use lib.ListN.{length, take, drop, length-append, length-drop, take-append-drop}
use lib.Seq.{sets, sets-eq, length-take-le, take-take}
use borrow.Rule.Slice.PartMut.{put_mid}
use Rattle.std.proofs.Common.{drop-drop}
use Rattle.std.proofs.lemmas.Slice.{between_is}
use Rattle.laws.proofs.Sets.{sets_append, sets_before}
use Rattle.rules.specs.Lists.{overwrite}
use Rattle.rules.specs.StopRule.{edited}

-- a run copied over a part of the buffer
pub run_put : (l vs ys : List ℕ) (i k : ℕ) → ys ≡ vs → k ≡ length vs → i + length vs ≤ length l → put_mid i k l ys ≡ sets l i vs
run_put l vs ys i k e n h =
    ap (λ (x : List ℕ). take i l ++ (x ++ drop k (drop i l))) e
    ∙ ap (λ (m : ℕ). take i l ++ (vs ++ drop m (drop i l))) n
    ∙ ap (λ (x : List ℕ). take i l ++ (vs ++ x)) (drop-drop (length vs) i l)
    ∙ sym (append_assoc (take i l) vs (drop (i + length vs) l))
    ∙ sym (sets-eq vs l i h)

-- a run from index i on, after what the buffer has there
pub run-over : (l : List ℕ) (i : ℕ) (vs : List ℕ) → i + length vs ≤ length l → sets l i vs ≡ overwrite (take i l ++ vs) l
unfolding overwrite
run-over l i vs h =
    let n : length (take i l ++ vs) ≡ i + length vs = length-append (take i l) vs ∙ ap (λ (k : ℕ). k + length vs) (length-take-le i l (omega arith)) in
    sets-eq vs l i h ∙ ap (λ (k : ℕ). (take i l ++ vs) ++ drop k l) (sym n)

-- a run at the front
pub front-over : (l vs : List ℕ) → length vs ≤ length l → sets l 0 vs ≡ overwrite vs l
front-over l vs h = run-over l 0 vs (omega arith)

-- a tail written first, then the middle before it
pub gap_over : (l : List ℕ) (i at : ℕ) (mid tail : List ℕ) → at ≡ i + length mid → at + length tail ≤ length l
    → sets (sets l at tail) i mid ≡ overwrite (take i l ++ (mid ++ tail)) l
gap_over l i at mid tail e h =
    ap (λ (k : ℕ). sets (sets l k tail) i mid) e ∙ sets_before mid tail l i ∙ run-over l i (mid ++ tail) (omega (arith, length-append mid tail))

-- a run that begins where the buffer agrees with what is to come
pub back-over : (l u : List ℕ) (a : ℕ) → a ≤ length u → length u ≤ length l → take a l ≡ take a u → sets l a (drop a u) ≡ overwrite u l
back-over l u a h k e =
    run-over l a (drop a u) (omega (arith, length-drop a u))
    ∙ ap (λ (x : List ℕ). overwrite x l) (ap (λ (x : List ℕ). x ++ drop a u) e ∙ take-append-drop a u)

-- `copy_back` from a spare that begins with u
pub copied_back : (text spare u : List ℕ) (a n : ℕ) → take n spare ≡ u → length u ≡ n → a ≤ n → n ≤ length text → take a text ≡ take a u
    → sets text a (drop a (take n spare)) ≡ overwrite u text
copied_back text spare u a n es eu h k e = ap (λ (x : List ℕ). sets text a (drop a x)) es ∙ back-over text u a (omega arith) (omega arith) e

-- the three runs of an edited text, in a spare
pub spliced : (s t w : List ℕ) (n a b : ℕ) → a ≤ b → b ≤ n → n ≤ length t → a + length w + (n - b) ≤ length s
    → sets (sets (sets s 0 (take a t)) a w) (a + length w) (take (n - b) (drop b t)) ≡ overwrite (edited (take n t) (record { a = a; b = b; w = w })) s
unfolding edited
spliced s t w n a b hab hbn hn room =
    let x : List ℕ = take a t in
    let z : List ℕ = drop b (take n t) in
    let ez : take (n - b) (drop b t) ≡ z = between_is t b n in
    let lz : length z ≡ n - b = ap length (sym ez) ∙ length-take-le (n - b) (drop b t) (omega (arith, length-drop b t)) in
    let lx : length x ≡ a = length-take-le a t (omega arith) in
    let e1 : a ≡ 0 + length x = omega arith in
    let e2 : a + length w ≡ 0 + length (x ++ w) = omega (arith, length-append x w) in
    ap (λ (k : List ℕ). sets (sets (sets s 0 x) a w) (a + length w) k) ez
    ∙ ap (λ (k : ℕ). sets (sets (sets s 0 x) k w) (a + length w) z) e1
    ∙ ap (λ (k : List ℕ). sets k (a + length w) z) (sym (sets_append x w s 0))
    ∙ ap (λ (k : ℕ). sets (sets s 0 (x ++ w)) k z) e2
    ∙ sym (sets_append (x ++ w) z s 0)
    ∙ front-over s ((x ++ w) ++ z) (omega (arith, length-append x w, length-append (x ++ w) z))
    ∙ ap (λ (k : List ℕ). overwrite k s) (append_assoc x w z ∙ ap (λ (k : List ℕ). k ++ (w ++ z)) (sym (take-take a n t (omega arith))))
