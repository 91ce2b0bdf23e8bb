-- `message::put_caret` meets its contract.
use Rattle.print.proofs.Fields.{fits_first, fits_next, fill_fits, print_then, print_last}
use Rattle.message.proofs.put_caret.Goals as goal

pub put_bytes-requires : goal.put_bytes-requires
put_bytes-requires g c = fits_first g.P.Printer.laws _ _ c.requires.fits

pub put_fill-requires : goal.put_fill-requires
put_fill-requires g c =
    let L = g.P.Printer.laws in
    fill_fits L 32 _ (fits_first L _ _ (fits_next L _ _ c.requires.fits c.put_bytes.ensures))

pub put_bytes-requires-2 : goal.put_bytes-requires-2
put_bytes-requires-2 g c =
    let L = g.P.Printer.laws in
    fits_first L _ _ (fits_next L _ _ (fits_next L _ _ c.requires.fits c.put_bytes.ensures) c.put_fill.ensures)

pub returns : goal.returns
returns g c =
    let L = g.P.Printer.laws in
    print_then L _ _ c.put_bytes.ensures (print_then L _ _ c.put_fill.ensures (print_last L c.put_bytes-2.ensures))
