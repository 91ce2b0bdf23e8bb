-- `page::edit` meets its contract.
use Rattle.header.specs.Pages.{header_of}
use Rattle.header.proofs.Fitting.{fits_by}
use Rattle.plans.specs.Plans.{lent_edit}
use Rattle.editing.specs.Answers.{lent}
use Rattle.page.proofs.Edits.{unfit, reversed, past, long, in-range, short-text, short-spare}
use Rattle.page.proofs.edit.Goals as goal

pub returns-then-not-fits : goal.returns-then-not-fits
returns-then-not-fits c = unfit _ _ c.fits.ensures c.if-not-fits.true

pub returns-then-edit : goal.returns-then-edit
returns-then-edit c = reversed _ _ c.fits.ensures c.if-not-fits.false c.if-edit.true

pub returns-then-head-edit : goal.returns-then-head-edit
returns-then-head-edit c = past _ _ c.fits.ensures c.if-not-fits.false c.if-head-edit.true

pub returns-then-limits-size : goal.returns-then-limits-size
returns-then-limits-size c = long _ _ c.fits.ensures c.if-not-fits.false c.if-edit.false c.if-head-edit.false c.edited_length-size.ensures c.barge_limits-limits.ensures c.if-limits-size.true

pub returns-then-text-size : goal.returns-then-text-size
returns-then-text-size c =
    short-text _ _ c.fits.ensures c.if-not-fits.false c.if-edit.false c.if-head-edit.false c.edited_length-size.ensures c.barge_limits-limits.ensures c.if-limits-size.false c.if-text-size.true

pub returns-then-spare-size : goal.returns-then-spare-size
returns-then-spare-size c =
    short-spare _ _ c.fits.ensures c.if-not-fits.false c.if-edit.false c.if-head-edit.false c.edited_length-size.ensures c.barge_limits-limits.ensures
    c.if-limits-size.false c.if-text-size.false c.if-spare-size.true

pub edit_text-requires-clause-page_fits : goal.edit_text-requires-clause-page_fits
edit_text-requires-clause-page_fits c = fits_by _ _ _ c.fits.ensures c.if-not-fits.false

pub edit_text-requires-clause-in_range : goal.edit_text-requires-clause-in_range
edit_text-requires-clause-in_range c =
    let a = c.args in
    let q = lent (header_of a.head) a.text.now a.spare.now a.lines.now a.tokens.now in
    in-range q (lent_edit a.edit) c.fits.ensures c.if-not-fits.false c.if-edit.false c.if-head-edit.false c.edited_length-size.ensures c.barge_limits-limits.ensures c.if-limits-size.false
