-- `token_text::token_part` meets its contract.
use mathlib.Core.Path.{◌∙◌, ap}
use lib.ListN.{length}
use Rattle.rules.specs.Replies.{accepted}
use Rattle.rules.specs.TokenText.{part_words}
use Rattle.header.specs.Pages.{lent_page}
use Rattle.token_text.proofs.Texts.{refused, accepts, part-is}
use borrow.Author.Rules.{rules}
use Rattle.token_text.proofs.token_part.Goals as goal

pub returns-in_err-t : goal.returns-in_err-t
returns-in_err-t c =
    let a = c.args in
    let e = refused (lent_page a.page) a.i (length a.names.now) _ c.in_err-t.ensures.refusal in
    search (rules, e)

pub returns : goal.returns
returns c =
    let a = c.args in
    let pg = lent_page a.page in
    let p = part-is pg a.i (length a.names.now) _ c.in_ok-t.ensures.granted in
    ap accepted (c.part_by_kind.ensures ∙ ap part_words p) ∙ accepts pg a.i (length a.names.now) c.in_ok-t.ensures.refusal
