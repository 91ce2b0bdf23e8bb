-- `print::LentPrinter::put_bytes` meets its contract.
use mathlib.Core.Path.{refl}
use Rattle.print.proofs.LentPrinter.put_bytes.Goals as goal

pub returns : goal.returns
returns c = record { same = refl; size = refl; written = c.copy_bytes.ensures }
