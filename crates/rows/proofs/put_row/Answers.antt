-- `rows::put_row` meets its contract.
use mathlib.Core.Path.{sym, ap}
use lib.ListN.{length}
use Rattle.print.proofs.Fields.{fits_as, fits_first, fits_next, prints_as, print_then, print_last}
use Rattle.rows.proofs.Rows.{token-fields}
use Rattle.rows.proofs.put_row.Goals as goal

pub put_labelled-requires : goal.put_labelled-requires
put_labelled-requires g c =
    let L = g.P.Printer.laws in
    fits_first L _ _ (fits_as L (ap length (token-fields c.args.row.now)) c.requires)

pub put_labelled-requires-2 : goal.put_labelled-requires-2
put_labelled-requires-2 g c =
    let L = g.P.Printer.laws in
    fits_first L _ _ (fits_next L _ _ (fits_as L (ap length (token-fields c.args.row.now)) c.requires) c.put_labelled.ensures)

pub put_labelled-requires-3 : goal.put_labelled-requires-3
put_labelled-requires-3 g c =
    let L = g.P.Printer.laws in
    fits_first L _ _ (fits_next L _ _ (fits_next L _ _ (fits_as L (ap length (token-fields c.args.row.now)) c.requires) c.put_labelled.ensures) c.put_labelled-2.ensures)

pub put_labelled-requires-4 : goal.put_labelled-requires-4
put_labelled-requires-4 g c =
    let L = g.P.Printer.laws in
    fits_first L _ _ (fits_next L _ _ (fits_next L _ _ (fits_next L _ _ (fits_as L (ap length (token-fields c.args.row.now)) c.requires) c.put_labelled.ensures) c.put_labelled-2.ensures) c.put_labelled-3.ensures)

pub put_labelled-requires-5 : goal.put_labelled-requires-5
put_labelled-requires-5 g c =
    let L = g.P.Printer.laws in
    fits_first L _ _ (fits_next L _ _ (fits_next L _ _ (fits_next L _ _ (fits_next L _ _ (fits_as L (ap length (token-fields c.args.row.now)) c.requires) c.put_labelled.ensures) c.put_labelled-2.ensures) c.put_labelled-3.ensures) c.put_labelled-4.ensures)

pub put_bytes-requires : goal.put_bytes-requires
put_bytes-requires g c =
    let L = g.P.Printer.laws in
    fits_first L _ _ (fits_next L _ _ (fits_next L _ _ (fits_next L _ _ (fits_next L _ _ (fits_next L _ _ (fits_as L (ap length (token-fields c.args.row.now)) c.requires) c.put_labelled.ensures) c.put_labelled-2.ensures) c.put_labelled-3.ensures) c.put_labelled-4.ensures) c.put_labelled-5.ensures)

pub returns : goal.returns
returns g c =
    let L = g.P.Printer.laws in
    prints_as L (sym (token-fields c.args.row.now)) (print_then L _ _ c.put_labelled.ensures (print_then L _ _ c.put_labelled-2.ensures (print_then L _ _ c.put_labelled-3.ensures (print_then L _ _ c.put_labelled-4.ensures (print_then L _ _ c.put_labelled-5.ensures (print_last L c.put_bytes.ensures))))))
