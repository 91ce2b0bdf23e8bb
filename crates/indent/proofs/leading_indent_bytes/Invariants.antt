-- `indent::leading_indent_bytes` meets its contract. What is left gives the whole run.
use Prim.Native.Nat.{◌+◌, ◌≤◌}
use mathlib.Core.Path.{◌≡◌}
use lib.ListN.{length, drop}
use Rattle.rules.specs.Lists.{run}
use Rattle.indent.proofs.Indents.{indents}
use Rattle.indent.proofs.leading_indent_bytes.Given as goal

abbrev pub invariant-loop-i : goal.invariant-loop-i
invariant-loop-i l = (l.i ≤ length l.line) × (l.i + run indents (drop l.i l.line) ≡ run indents l.line)
