-- `checking::check` meets its contract.
use Rattle.std.proofs.Common.{sym}
use Rattle.header.specs.Pages.{lent_page}
use Rattle.checking.proofs.Pages.{unfit-page, parts, checked}
use Rattle.checking.proofs.check.Goals as goal

pub returns-then-not-fits : goal.returns-then-not-fits
returns-then-not-fits c = unfit-page (lent_page c.args.page) c.if-not-fits.ensures

pub slice_bounds-is_fresh-end : goal.slice_bounds-is_fresh-end
slice_bounds-is_fresh-end c = sym (parts (lent_page c.args.page) c.if-not-fits.ensures).0

pub slice_bounds-is_fresh-end-2 : goal.slice_bounds-is_fresh-end-2
slice_bounds-is_fresh-end-2 c = sym (parts (lent_page c.args.page) c.if-not-fits.ensures).1

pub slice_bounds-is_fresh-end-3 : goal.slice_bounds-is_fresh-end-3
slice_bounds-is_fresh-end-3 c = sym (parts (lent_page c.args.page) c.if-not-fits.ensures).2

pub is_fresh-requires : goal.is_fresh-requires
is_fresh-requires c = let p = parts (lent_page c.args.page) c.if-not-fits.ensures in (p.1, p.2)

pub returns : goal.returns
returns c = checked (lent_page c.args.page) c.if-not-fits.ensures _ c.is_fresh.ensures
