-- `copies::copy_bytes` meets its contract.
use Rattle.std.proofs.Common.{ℕ, ◌+◌, refl, ap, ◌∙◌, List, length, take, get_or, set, take_all, arith}
use Rattle.std.proofs.lemmas.List.Edits.{sets}
use lib.Seq.{length-sets}
use Rattle.laws.proofs.Sets.{copy-up}
use Rattle.copies.proofs.copy_bytes.Goals as goal

pub loop-j-init : goal.loop-j-init
loop-j-init c = refl

pub bounds-dst-at : goal.bounds-dst-at
bounds-dst-at c =
    let a = c.args in
    omega (arith, ap length c.loop-j.invariant, length-sets a.dst.now a.at (take c.loop-j.j a.src.now))

pub loop-j-preserved : goal.loop-j-preserved
loop-j-preserved c =
    let a = c.args in
    ap (λ (l : List ℕ). set l (a.at + c.loop-j.j) (get_or a.src.now c.loop-j.j 0)) c.loop-j.invariant ∙ copy-up a.src.now a.dst.now a.at c.loop-j.j 0 (omega arith)

pub returns : goal.returns
returns c = let a = c.args in c.loop-j.invariant ∙ ap (sets a.dst.now a.at) (take_all c.loop-j.j a.src.now (omega arith))
