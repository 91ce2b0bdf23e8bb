-- `rows::put_refusal` meets its contract.
use mathlib.Core.Path.{sym, ap}
use lib.ListN.{length}
use Rattle.print.proofs.Fields.{fits_as, fits_first, fits_next, prints_as, print_then, print_last}
use Rattle.rows.proofs.Rows.{refused-fields}
use Rattle.rows.proofs.put_refusal.Goals as goal

pub put_labelled-requires : goal.put_labelled-requires
put_labelled-requires g c =
    let L = g.P.Printer.laws in
    fits_first L _ _ (fits_as L (ap length (refused-fields c.args.number)) c.requires)

pub put_bytes-requires : goal.put_bytes-requires
put_bytes-requires g c =
    let L = g.P.Printer.laws in
    fits_first L _ _ (fits_next L _ _ (fits_as L (ap length (refused-fields c.args.number)) c.requires) c.put_labelled.ensures)

pub returns : goal.returns
returns g c =
    let L = g.P.Printer.laws in
    prints_as L (sym (refused-fields c.args.number)) (print_then L _ _ c.put_labelled.ensures (print_last L c.put_bytes.ensures))
