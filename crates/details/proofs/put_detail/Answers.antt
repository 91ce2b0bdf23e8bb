-- `details::put_detail` meets its contract.
use mathlib.Core.Path.{refl, sym, ap}
use native.Mathlib.Omega.{arith}
use lib.ListN.{length}
use Rattle.print.proofs.Fields.{fits_as, prints_as, fits_front, fits_back}
use Rattle.details.proofs.Details.{none-above, detail_parts}
use Rattle.details.proofs.put_detail.Goals as goal

pub put_bytes-requires : goal.put_bytes-requires
put_bytes-requires g c =
    let L = g.P.Printer.laws in
    let e = detail_parts c.in-Ok.d c.args.detail c.args.found _ _ _ c.in-Ok.ensures c.front.ensures refl refl in
    fits_front L _ _ (fits_as L (ap length e) c.requires.fits)

pub put_shown-requires-clause-fits : goal.put_shown-requires-clause-fits
put_shown-requires-clause-fits g c =
    let L = g.P.Printer.laws in
    let e = detail_parts c.in-Ok.d c.args.detail c.args.found _ _ _ c.in-Ok.ensures c.front.ensures c.shows.ensures refl in
    fits_front L _ _ (fits_back L _ _ (fits_as L (ap length e) c.requires.fits) c.put_bytes.ensures)

pub put_bytes-requires-in-Ok : goal.put_bytes-requires-in-Ok
put_bytes-requires-in-Ok g c =
    let L = g.P.Printer.laws in
    let e = detail_parts c.in-Ok.d c.args.detail c.args.found _ _ _ c.in-Ok.ensures c.front.ensures c.shows.ensures c.back.ensures in
    fits_back L _ _ (fits_back L _ _ (fits_as L (ap length e) c.requires.fits) c.put_bytes.ensures) c.put_shown.ensures

pub returns-in-Ok : goal.returns-in-Ok
returns-in-Ok g c =
    let L = g.P.Printer.laws in
    let e = detail_parts c.in-Ok.d c.args.detail c.args.found _ _ _ c.in-Ok.ensures c.front.ensures c.shows.ensures c.back.ensures in
    prints_as L (sym e) (L.joined _ _ _ _ _ c.put_bytes.ensures (L.joined _ _ _ _ _ c.put_shown.ensures c.put_bytes-in-Ok.ensures))

pub returns-in_default : goal.returns-in_default
returns-in_default g c =
    let L = g.P.Printer.laws in
    prints_as L (none-above c.args.detail c.args.found (omega (arith, c.requires.numbered, c.in_default.ensures.1))) (L.nothing c.args.out.now)
