-- `copies::splice` meets its contract: front, w and tail, one after the other.
use Prim.Native.Nat.{ℕ, ◌+◌, ◌-◌}
use mathlib.Core.Path.{sym, ap, ◌∙◌}
use mathlib.Core.List.{List}
use native.Mathlib.Omega.{arith}
use lib.ListN.{length, take, drop}
use lib.Seq.{sets, length-take-le}
use Rattle.copies.proofs.Joins.{spliced}
use Rattle.copies.proofs.splice.Goals as goal

pub slice_bounds-copy_bytes-end : goal.slice_bounds-copy_bytes-end
slice_bounds-copy_bytes-end c = sym (length-take-le c.args.a c.args.text.now (omega arith))

pub copy_bytes-requires : goal.copy_bytes-requires
copy_bytes-requires c = omega (arith, length-take-le c.args.a c.args.text.now (omega arith))

pub returns : goal.returns
returns c =
    let a = c.args in
    c.copy_bytes-3.ensures
    ∙ ap (λ (k : List ℕ). sets k (a.a + length a.w.now) (take (a.n - a.b) (drop a.b a.text.now)))
    (c.copy_bytes-2.ensures ∙ ap (λ (k : List ℕ). sets k a.a a.w.now) c.copy_bytes.ensures)
    ∙ spliced a.spare.now a.text.now a.w.now a.n a.a a.b (omega arith) (omega arith) (omega arith) (omega arith)
