-- `columns::column_at` meets its contract. The loop's invariant: `i` is reached by whole scalars, and `count` of them stand before it in its line.
use mathlib.Core.Path.{sym, ◌∙◌}
use native.Mathlib.Omega.{arith}
use Rattle.columns.proofs.Walks.{not_yet, walk_more, in_text, walk_stops, walk_passes, walk_comes}
use Rattle.columns.proofs.column_at.Goals as goal

pub loop-i-init : goal.loop-i-init
loop-i-init c = not_yet _ _

pub returns-then-size-eq0 : goal.returns-then-size-eq0
returns-then-size-eq0 c =
    walk_stops c.loop-i.invariant c.loop-i-test.true (sym c.scalar_size-size.ensures ∙ c.if-size-eq0.true)

pub bounds-text-i : goal.bounds-text-i
bounds-text-i c = omega (arith, in_text c.loop-i.invariant _ c.scalar_size-size.ensures)

pub overflow_add-i : goal.overflow_add-i
overflow_add-i c = omega (arith, in_text c.loop-i.invariant _ c.scalar_size-size.ensures)

pub loop-i-smaller : goal.loop-i-smaller
loop-i-smaller c = omega (arith, in_text c.loop-i.invariant _ c.scalar_size-size.ensures)

pub loop-i-preserved : goal.loop-i-preserved
loop-i-preserved c =
    walk_more c.loop-i.invariant _ _ c.loop-i-test.true c.scalar_size-size.ensures c.if-size-eq0.false c.count_after-count.ensures

pub returns-then-at-i : goal.returns-then-at-i
returns-then-at-i c = walk_passes c.loop-i.invariant c.if-at-i.true

pub returns : goal.returns
returns c = walk_comes c.loop-i.invariant (omega arith)
