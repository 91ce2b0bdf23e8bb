-- `message::print_message` meets its contract: its four parts are printed one behind the other.
use Rattle.message.proofs.Whole.{heading_fits, place_fits, excerpt_fits, caret_fits, message_printed}
use Rattle.message.proofs.print_message.Goals as goal

pub put_heading-requires-clause-fits : goal.put_heading-requires-clause-fits
put_heading-requires-clause-fits g c = heading_fits g.P.Printer.laws c.args.text.now c.args.f c.requires.fits

pub put_place-requires : goal.put_place-requires
put_place-requires g c = place_fits g.P.Printer.laws c.args.text.now c.args.f c.requires.fits c.put_heading.ensures

pub put_excerpt-requires-clause-fits : goal.put_excerpt-requires-clause-fits
put_excerpt-requires-clause-fits g c =
    excerpt_fits g.P.Printer.laws c.args.text.now c.args.f c.requires.fits c.put_heading.ensures c.put_place.ensures

pub put_caret-requires-clause-fits : goal.put_caret-requires-clause-fits
put_caret-requires-clause-fits g c =
    caret_fits g.P.Printer.laws c.args.text.now c.args.f c.requires.fits c.put_heading.ensures c.put_place.ensures c.put_excerpt.ensures

pub returns : goal.returns
returns g c =
    message_printed g.P.Printer.laws c.args.text.now c.args.f c.put_heading.ensures c.put_place.ensures c.put_excerpt.ensures c.put_caret.ensures
