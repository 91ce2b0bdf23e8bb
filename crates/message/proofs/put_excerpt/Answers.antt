-- `message::put_excerpt` meets its contract.
use mathlib.Core.Path.{sym, ap, ◌∙◌}
use lib.ListN.{length}
use Rattle.print.proofs.Fields.{fits_as, fits_first, fits_next, prints_as, print_then, print_last}
use Rattle.message.proofs.Excerpts.{rest-content}
use Rattle.message.proofs.put_excerpt.Goals as goal

pub put_bytes-requires : goal.put_bytes-requires
put_bytes-requires g c = fits_first g.P.Printer.laws _ _ c.requires.fits

pub put_aligned-requires : goal.put_aligned-requires
put_aligned-requires g c =
    let L = g.P.Printer.laws in
    fits_first L _ _ (fits_next L _ _ c.requires.fits c.put_bytes.ensures)

pub put_bytes-requires-2 : goal.put_bytes-requires-2
put_bytes-requires-2 g c =
    let L = g.P.Printer.laws in
    fits_first L _ _ (fits_next L _ _ (fits_next L _ _ c.requires.fits c.put_bytes.ensures) c.put_aligned.ensures)

pub put_bytes-requires-3 : goal.put_bytes-requires-3
put_bytes-requires-3 g c =
    let L = g.P.Printer.laws in
    let e = c.content_of.ensures ∙ rest-content c.args.text.now c.args.start in
    fits_as L (ap length (sym e)) (fits_first L _ _ (fits_next L _ _ (fits_next L _ _ (fits_next L _ _ c.requires.fits c.put_bytes.ensures) c.put_aligned.ensures) c.put_bytes-2.ensures))

pub returns : goal.returns
returns g c =
    let L = g.P.Printer.laws in
    let e = c.content_of.ensures ∙ rest-content c.args.text.now c.args.start in
    print_then L _ _ c.put_bytes.ensures (print_then L _ _ c.put_aligned.ensures (print_then L _ _ c.put_bytes-2.ensures (print_last L (prints_as L e c.put_bytes-3.ensures))))
