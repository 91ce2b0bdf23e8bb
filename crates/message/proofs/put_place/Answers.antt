-- `message::put_place` meets its contract.
use Rattle.print.proofs.Fields.{fits_first, fits_next, print_then, print_last}
use Rattle.message.proofs.put_place.Goals as goal

pub put_bytes-requires : goal.put_bytes-requires
put_bytes-requires g c = fits_first g.P.Printer.laws _ _ c.requires

pub put_decimal-requires : goal.put_decimal-requires
put_decimal-requires g c =
    let L = g.P.Printer.laws in
    fits_first L _ _ (fits_next L _ _ c.requires c.put_bytes.ensures)

pub put_bytes-requires-2 : goal.put_bytes-requires-2
put_bytes-requires-2 g c =
    let L = g.P.Printer.laws in
    fits_first L _ _ (fits_next L _ _ (fits_next L _ _ c.requires c.put_bytes.ensures) c.put_decimal.ensures)

pub put_decimal-requires-2 : goal.put_decimal-requires-2
put_decimal-requires-2 g c =
    let L = g.P.Printer.laws in
    fits_first L _ _ (fits_next L _ _ (fits_next L _ _ (fits_next L _ _ c.requires c.put_bytes.ensures) c.put_decimal.ensures) c.put_bytes-2.ensures)

pub returns : goal.returns
returns g c =
    let L = g.P.Printer.laws in
    print_then L _ _ c.put_bytes.ensures (print_then L _ _ c.put_decimal.ensures (print_then L _ _ c.put_bytes-2.ensures (print_last L c.put_decimal-2.ensures)))
