-- `utf8::is_ascii_block` meets its contract. The loop's invariant: the bits so far and the bytes that are left decide.
use Prim.Native.Nat.{suc, ◌+◌, ◌-◌}
use mathlib.Core.Path.{◌≡◌, sym, ◌∙◌}
use native.Mathlib.Nat.{add-zero}
use native.Mathlib.Omega.{arith}
use Rattle.utf8.proofs.PassLaws.{bits_more, no_bytes}
use Rattle.utf8.proofs.is_ascii_block.Goals as goal

pub loop-j-init : goal.loop-j-init
loop-j-init c = (omega arith, rw add-zero)

pub loop-j-preserved : goal.loop-j-preserved
loop-j-preserved c =
    let a = c.args in
    let l = c.loop-j in
    let n = 32 - (l.j + 1) in
    let next : suc (a.at + l.j) ≡ a.at + (l.j + 1) = omega arith in
    let left : suc n ≡ 32 - l.j = omega arith in
    (omega arith, rw (← next) (bits_more a.text.now l.bits (a.at + l.j) n (omega arith) ∙ rw (left, l.invariant.1)))

pub returns : goal.returns
returns c =
    let a = c.args in
    let l = c.loop-j in
    let none : 32 - l.j ≡ 0 = omega arith in
    sym (no_bytes a.text.now l.bits (a.at + l.j)) ∙ rw (← none, l.invariant.1)
