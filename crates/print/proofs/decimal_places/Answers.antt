-- `print::decimal_places` meets its contract.
use mathlib.Core.Path.{sym}
use native.Mathlib.Omega.{arith}
use Rattle.print.proofs.Prints.{places-one, places-at}
use Rattle.print.proofs.decimal_places.Goals as goal

pub returns-in-Some : goal.returns-in-Some
returns-in-Some c = places-at c.in-Some.k c.args.n c.in-Some.ensures.power_le c.in-Some.ensures.next_power_gt

pub returns-in-None : goal.returns-in-None
returns-in-None c = sym (places-one c.args.n (omega (arith, c.in-None.ensures.none)))
