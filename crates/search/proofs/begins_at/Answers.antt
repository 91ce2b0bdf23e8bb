-- `search::begins_at` meets its contract. What is left to compare decides.
use Prim.Native.Nat.{◌+◌}
use mathlib.Core.Path.{sym, ◌∙◌}
use native.Mathlib.Omega.{arith}
use native.Mathlib.Nat.{add-zero}
use lib.ListN.{drop, length-drop}
use Rattle.rules.proofs.BeginsLaws.{begins-more, begins-other, begins-all, begins-short}
use Rattle.search.proofs.begins_at.Goals as goal

pub returns-then-line-at : goal.returns-then-line-at
returns-then-line-at c =
    let a = c.args in
    sym (begins-short a.front.now (drop a.at a.line.now) (omega (arith, length-drop a.at a.line.now)))

pub loop-j-init : goal.loop-j-init
loop-j-init c = (omega arith, omega arith, rw add-zero)

pub returns-then-line-at-2 : goal.returns-then-line-at-2
returns-then-line-at-2 c =
    let a = c.args in
    sym (begins-other a.front.now a.line.now a.at c.loop-j.j (omega arith) (omega arith) c.if-line-at-2.true) ∙ c.loop-j.invariant.2

pub loop-j-preserved : goal.loop-j-preserved
loop-j-preserved c =
    let a = c.args in
    (omega arith, omega arith, sym (begins-more a.front.now a.line.now a.at c.loop-j.j (omega arith) (omega arith) c.if-line-at-2.false) ∙ c.loop-j.invariant.2)

pub returns : goal.returns
returns c =
    let a = c.args in
    sym (begins-all a.front.now (drop (a.at + c.loop-j.j) a.line.now) c.loop-j.j (omega arith)) ∙ c.loop-j.invariant.2
