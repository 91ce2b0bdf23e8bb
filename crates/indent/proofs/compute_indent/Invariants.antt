-- `indent::compute_indent` meets its contract. What is left gives the whole width.
use Prim.Native.Nat.{◌+◌, ◌*◌, ◌≤◌}
use mathlib.Core.Path.{◌≡◌}
use lib.ListN.{length, drop}
use Rattle.rules.specs.Line.{indent_width}
use Rattle.indent.proofs.compute_indent.Given as goal

abbrev pub invariant-loop-i : goal.invariant-loop-i
invariant-loop-i l = (l.i ≤ length l.line) × (l.width ≤ 4 * l.i) × (l.width + indent_width (drop l.i l.line) ≡ indent_width l.line)
