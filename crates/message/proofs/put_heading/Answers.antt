-- `message::put_heading` meets its contract.
use native.Mathlib.Omega.{arith}
use Rattle.print.proofs.Fields.{fits_first, fits_next, digits_fits, print_then, print_last}
use Rattle.message.proofs.put_heading.Goals as goal

pub put_bytes-requires : goal.put_bytes-requires
put_bytes-requires g c = fits_first g.P.Printer.laws _ _ c.requires.fits

pub put_digits-requires : goal.put_digits-requires
put_digits-requires g c =
    let L = g.P.Printer.laws in
    (omega arith, omega arith, digits_fits L 10 4 c.args.code (fits_first L _ _ (fits_next L _ _ c.requires.fits c.put_bytes.ensures)))

pub put_bytes-requires-2 : goal.put_bytes-requires-2
put_bytes-requires-2 g c =
    let L = g.P.Printer.laws in
    fits_first L _ _ (fits_next L _ _ (fits_next L _ _ c.requires.fits c.put_bytes.ensures) c.put_digits.ensures)

pub put_detail-requires-clause-fits : goal.put_detail-requires-clause-fits
put_detail-requires-clause-fits g c =
    let L = g.P.Printer.laws in
    fits_first L _ _ (fits_next L _ _ (fits_next L _ _ (fits_next L _ _ c.requires.fits c.put_bytes.ensures) c.put_digits.ensures) c.put_bytes-2.ensures)

pub returns : goal.returns
returns g c =
    let L = g.P.Printer.laws in
    print_then L _ _ c.put_bytes.ensures (print_then L _ _ c.put_digits.ensures (print_then L _ _ c.put_bytes-2.ensures (print_last L c.put_detail.ensures)))
