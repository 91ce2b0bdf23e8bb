-- `print::CountPrinter::put_digits` meets its contract.
use native.Mathlib.Omega.{arith}
use mathlib.Core.List.{[]}
use Rattle.print.proofs.Prints.{length_digits}
use Rattle.print.proofs.CountPrinter.put_digits.Goals as goal

pub returns : goal.returns
returns c = omega (arith, length_digits c.args._base c.args.places c.args._n [])
