-- `token_text::token_text` meets its contract.
use mathlib.Core.Path.{◌∙◌, ap}
use lib.ListN.{length}
use Rattle.rules.specs.TokenText.{part_bytes}
use Rattle.header.specs.Pages.{lent_page}
use Rattle.token_text.specs.Places.{part_place}
use Rattle.token_text.proofs.Texts.{refused, accepts, number_is, part-is, text_lem}
use borrow.Author.Rules.{rules}
use Rattle.token_text.proofs.token_text.Goals as goal

pub returns-in_err-token : goal.returns-in_err-token
returns-in_err-token c =
    let a = c.args in
    let e = refused (lent_page a.page) a.i (length a.names.now) _ c.in_err-token.ensures.refusal in
    search (rules, e, number_is (lent_page a.page) a.i (length a.names.now) _ e)

pub returns : goal.returns
returns c =
    let a = c.args in
    let pg = lent_page a.page in
    let asked = c.in_ok-token.ensures in
    let d = c.text_by_kind.ensures in
    let p = part-is pg a.i (length a.names.now) _ asked.granted in
    let told = accepts pg a.i (length a.names.now) asked.refusal in
    record {
      told = told;
      number = number_is pg a.i (length a.names.now) _ told;
      text = d.result_value ∙ ap (part_bytes a.page.text.now a.names.now) p ∙ text_lem pg a.i a.names.now asked.refusal;
      place = d.ref_ptr_value ∙ ap (part_place a.page.text.ref_ptr a.names.ref_ptr) p;
    }
