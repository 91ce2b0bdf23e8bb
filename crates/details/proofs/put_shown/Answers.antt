-- `details::put_shown` meets its contract.
use native.Mathlib.Omega.{arith}
use Rattle.rules.specs.Report.{shown}
use Rattle.print.proofs.Fields.{digits_fits}
use Rattle.details.proofs.put_shown.Goals as goal

pub put_scalar-requires-clause-fits : goal.put_scalar-requires-clause-fits
unfolding shown
put_scalar-requires-clause-fits g c = rw c.in-Scalar.is at c.requires.fits

pub put_digits-requires : goal.put_digits-requires
unfolding shown
put_digits-requires g c =
    (omega arith, omega arith, digits_fits g.P.Printer.laws 16 4 c.args.found (rw c.in-HexDigits.is at c.requires.fits))

pub returns-in-Nothing : goal.returns-in-Nothing
unfolding shown
returns-in-Nothing g c = rw c.in-Nothing.is (g.P.Printer.laws.nothing c.args.out.now)

pub returns-in-Scalar : goal.returns-in-Scalar
unfolding shown
returns-in-Scalar g c = rw c.in-Scalar.is c.put_scalar.ensures

pub returns-in-HexDigits : goal.returns-in-HexDigits
unfolding shown
returns-in-HexDigits g c = rw c.in-HexDigits.is c.put_digits.ensures
