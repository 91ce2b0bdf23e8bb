-- `print::put_decimal` meets its contract.
use mathlib.Core.Path.{sym, ◌∙◌, subst}
use native.Mathlib.Omega.{arith}
use Rattle.rules.specs.Report.{decimal}
use Rattle.print.proofs.Prints.{length_decimal}
use Rattle.print.proofs.put_decimal.Goals as goal

pub put_digits-requires : goal.put_digits-requires
put_digits-requires g c =
    (omega arith, omega arith, subst (g.P.Printer.fits c.args.out.now) (length_decimal c.args.n ∙ sym c.decimal_places.ensures) c.requires)

pub returns : goal.returns
unfolding decimal
returns g c = rw c.decimal_places.ensures at c.put_digits.ensures
