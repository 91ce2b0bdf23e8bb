-- `token_text::ask` meets its contract.
use mathlib.Core.Path.{refl, sym, ◌∙◌}
use native.Mathlib.Omega.{arith}
use Rattle.rules.specs.TokenText.{token_word}
use Rattle.rules.proofs.PageLaws.{fits_true}
use Rattle.header.specs.Pages.{lent_page}
use Rattle.token_text.proofs.Tests.{first_word, unfit-by, no_page, no_number, no_token, in_text, no_names, granted}
use Rattle.token_text.proofs.ask.Goals as goal

pub returns-then-not-fits-clause-refusal : goal.returns-then-not-fits-clause-refusal
returns-then-not-fits-clause-refusal c =
    no_page (lent_page c.args.page) c.args.i c.args.names (sym c.fits.ensures ∙ c.if-not-fits.true)

pub returns-then-page-i-clause-refusal : goal.returns-then-page-i-clause-refusal
returns-then-page-i-clause-refusal c =
    no_number (lent_page c.args.page) c.args.i c.args.names (sym c.fits.ensures ∙ c.if-not-fits.false) c.if-page-i.true

pub bounds-page-at : goal.bounds-page-at
bounds-page-at c =
    let f = fits_true (lent_page c.args.page) (sym c.fits.ensures ∙ c.if-not-fits.false) in
    omega (arith, f.tokens, c.if-page-i.false)

pub bounds-page-at-2 : goal.bounds-page-at-2
bounds-page-at-2 c =
    let f = fits_true (lent_page c.args.page) (sym c.fits.ensures ∙ c.if-not-fits.false) in
    omega (arith, f.tokens, c.if-page-i.false)

pub bounds-page-at-3 : goal.bounds-page-at-3
bounds-page-at-3 c =
    let f = fits_true (lent_page c.args.page) (sym c.fits.ensures ∙ c.if-not-fits.false) in
    omega (arith, f.tokens, c.if-page-i.false)

pub returns-then-is_unfit-clause-refusal : goal.returns-then-is_unfit-clause-refusal
unfolding token_word
returns-then-is_unfit-clause-refusal c =
    let a = c.args in
    let pg = lent_page a.page in
    no_token pg a.i a.names (sym c.fits.ensures ∙ c.if-not-fits.false) c.if-page-i.false (unfit-by pg a.i c.is_unfit.result _ c.is_unfit.ensures c.if-is_unfit.true)

pub returns-then-names-lt-NAMES_END-clause-refusal : goal.returns-then-names-lt-NAMES_END-clause-refusal
unfolding token_word
returns-then-names-lt-NAMES_END-clause-refusal c =
    let a = c.args in
    let pg = lent_page a.page in
    let u = unfit-by pg a.i c.is_unfit.result _ c.is_unfit.ensures c.if-is_unfit.false in
    no_names pg a.i a.names (sym c.fits.ensures ∙ c.if-not-fits.false) c.if-page-i.false u c.if-names-lt-NAMES_END.true

pub returns : goal.returns
unfolding token_word
returns c =
    let a = c.args in
    let pg = lent_page a.page in
    let f = sym c.fits.ensures ∙ c.if-not-fits.false in
    let u = unfit-by pg a.i c.is_unfit.result _ c.is_unfit.ensures c.if-is_unfit.false in
    let room = c.if-names-lt-NAMES_END.false in
    record {
      refusal = granted pg a.i a.names f c.if-page-i.false u room;
      granted = record { kind-is = first_word pg a.i; position-is = refl; size_is = refl; in_text = in_text pg a.i a.names f c.if-page-i.false u; in_names = room };
    }
