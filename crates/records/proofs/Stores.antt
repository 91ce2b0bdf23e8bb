-- Words stored at a place, and compared with those at a place.
-- Assumes nothing.
use Rattle.std.proofs.Common.{ℕ, ◌+◌, ◌-◌, ◌≤◌, ◌<◌, ◌≡◌, refl, sym, ap, ◌∙◌, Bool, List, [], ◌∷◌, ◌&&◌, append_assoc, take_all, length-drop, length, take, drop, eqb, arith}
use Rattle.std.proofs.lemmas.List.Edits.{sets, sets-eq, paste_all}
use Rattle.std.proofs.lemmas.Slice.{put_mid-paste}
use borrow.Rule.Slice.PartMut.{put_mid}
use borrow.Author.Tests.{ne_eqb}
use Rattle.std.specs.List.{starts_with}
use Rattle.std.proofs.Math.ListN.{drop_of_length-le}
use Rattle.rules.specs.Lists.{begins}

-- what a part of a buffer becomes that words are copied to
pub part_stored : (at n : ℕ) (l vs ws : List ℕ) → ws ≡ vs → n ≡ at + length vs → n ≤ length l → put_mid at (n - at) l ws ≡ sets l at vs
part_stored at n l vs ws e h k =
    put_mid-paste at (n - at) l ws vs (length vs) e (omega (arith, h)) refl ∙ paste_all l at vs (length vs) refl ∙ sym (append_assoc (take at l) vs (drop (at + length vs) l)) ∙ sym (sets-eq vs l at (omega (arith, h)))

-- the library's test and that of the rules
pub starts_as : (xs ns : List ℕ) → starts_with eqb xs ns ≡ begins ns xs
unfolding begins
starts_as xs [] = refl
starts_as [] (n ∷ ns) = refl
starts_as (x ∷ xs) (n ∷ ns) = ap (λ (b : Bool). eqb n x && b) (starts_as xs ns)

-- for words of a buffer from an index on, as its part to the end
pub starts_from : (xs ns : List ℕ) (at : ℕ) → starts_with eqb (take (length xs - at) (drop at xs)) ns ≡ begins ns (drop at xs)
starts_from xs ns at = ap (λ (ys : List ℕ). starts_with eqb ys ns) (take_all (length xs - at) (drop at xs) (omega (arith, length-drop at xs))) ∙ starts_as (drop at xs) ns

-- no words begin past the end, but none
pub starts_past : (xs ns : List ℕ) (at : ℕ) → length xs < at → eqb (length ns) 0 ≡ begins ns (drop at xs)
unfolding begins
starts_past xs [] at h = refl
starts_past xs (n ∷ ns) at h =
    let l : length xs ≤ at = omega arith in
    rw (drop_of_length-le xs l) (ne_eqb (length (n ∷ ns)) 0 (λ e. absurd (omega (arith, e))))
