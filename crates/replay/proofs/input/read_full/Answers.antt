use Rattle.std.proofs.Common.{◌≡◌, ℕ, ◌+◌, ◌≤◌, List, ◌++◌, rules, length, take, drop, sym, ◌∙◌, subst, le_refl, drop_at, length-take-le}
use Rattle.std.proofs.lemmas.Slice.{take-put_mid_below}
use Rattle.std.specs.Io.KnownBytes.{Consumes}
use Rattle.std.proofs.KnownBytes.{Consumes-trans}
use borrow.Rule.Slice.PartMut.{put_mid, post_of}
use lib.Seq.{take-add, take-append-le}
use Rattle.replay.proofs.input.read_full.Goals as goal

-- what stands at the front once n bytes of ys are put behind it
front_grows : (a k n : ℕ) (xs ys : List ℕ) → a ≤ length xs → n ≤ length ys → take (a + n) (put_mid a k xs ys) ≡ take a xs ++ take n ys
front_grows a k n xs ys within fits =
    let behind : drop a (put_mid a k xs ys) ≡ ys ++ post_of a k xs = drop_at (take a xs) (ys ++ post_of a k xs) a (length-take-le a xs within) in
    take-add a n (put_mid a k xs ys)
    ∙ rw (take-put_mid_below a k xs ys a (le_refl a) within, behind, take-append-le n ys (post_of a k xs) fits)

pub loop-size-preserved : goal.loop-size-preserved
loop-size-preserved g c =
    let before = c.loop-size.invariant in
    let read = c.in_ok-n.ensures in
    let grown = front_grows c.loop-size.size _ c.in_ok-n.n c.loop-size.buffer c.read.new.buf before.in_bounds read.bound.0 in
    record {
      in_bounds = search rules;
      bytes = subst (Consumes _ _) (sym grown) (Consumes-trans _ _ _ _ _ before.bytes read.bytes.0);
    }
