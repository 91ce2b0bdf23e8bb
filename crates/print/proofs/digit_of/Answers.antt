-- `print::digit_of` meets its contract.
use native.Mathlib.Omega.{arith}
use borrow.Author.Tests.{lt-ltb, le-ltb}
use Rattle.rules.specs.Report.{digit}
use Rattle.print.proofs.digit_of.Goals as goal

pub returns-then-d-lt10 : goal.returns-then-d-lt10
unfolding digit
returns-then-d-lt10 c = rw (lt-ltb c.args.d 10 c.if-d-lt10.true)

pub returns : goal.returns
unfolding digit
returns c = rw (le-ltb c.args.d 10 c.if-d-lt10.false) (omega arith)
