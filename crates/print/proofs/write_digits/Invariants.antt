-- `print::write_digits` meets its contract. So far the last digits stand there.
use Rattle.print.proofs.Prints.{Digits}
use Rattle.print.proofs.write_digits.Given as goal

abbrev pub invariant-loop-i : goal.invariant-loop-i
invariant-loop-i l = Digits l.initial.out l.base l.n l.out l.i l.rest
