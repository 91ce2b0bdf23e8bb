-- `indent::leading_spaces` meets its contract.
use mathlib.Core.Path.{sym}
use native.Mathlib.Omega.{arith}
use borrow.Author.Tests.{ne_eqb}
use lib.ListN.{get_or}
use Rattle.rules.specs.Line.{is_space}
use Rattle.rules.proofs.ListLaws.{run-stop, run_end}
use Rattle.runs.proofs.ReachLaws.{run_spaces}
use Rattle.indent.proofs.leading_spaces.Goals.{then-line-eq0-via-then-line-eq0, then-line-eq0-via-else-line-eq0+then-line-ne32}
use Rattle.indent.proofs.leading_spaces.Goals as goal

pub returns-then-line-eq0 : goal.returns-then-line-eq0
unfolding is_space
returns-then-line-eq0 c =
    let l = c.args.line.now in
    elim c.then-line-eq0.branch [
      | then-line-eq0-via-then-line-eq0 w ↦ sym (run_end is_space l 0 (omega arith))
      | then-line-eq0-via-else-line-eq0+then-line-ne32 w ↦ sym (run-stop is_space l 0 (omega (arith, w.if-line-eq0.false)) (ne_eqb (get_or l 0 0) 32 w.if-line-ne32.true))
    ]

pub returns : goal.returns
returns c = omega (arith, c.run_end.ensures, run_spaces c.args.line.now)
