-- `checking::is_fresh` meets its contract.
use Rattle.std.proofs.Common.{refl, ap, ◌∙◌, length}
use Rattle.rules.specs.Limits.{LineLimits, barge}
use Rattle.rules.specs.Records.{header, Records, read_lines}
use Rattle.rules.specs.Page.{is_recorded}
use Rattle.refusals.proofs.Tests.{passed_short, barge_test}
use Rattle.refusals.proofs.Barge.{barge-line}
use Rattle.checking.proofs.Pages.{refused-text, lines_decide}
use Rattle.checking.proofs.is_fresh.Goals as goal

pub returns-in-Err : goal.returns-in-Err
returns-in-Err c = refused-text _ c.args.text.now _ (barge_test c.args.text.now c.barge_limits-limits.ensures c.in-Err.ensures _ refl)

pub lines_agree-requires-clause-text_bound : goal.lines_agree-requires-clause-text_bound
lines_agree-requires-clause-text_bound c = passed_short barge c.args.text.now (barge_test c.args.text.now c.barge_limits-limits.ensures c.in-Ok.ensures _ refl)

pub returns-in-Ok : goal.returns-in-Ok
returns-in-Ok c =
    let t = c.args.text.now in
    let q : Records = record { head = header (length t) c.args.count c.args.total; lines = c.args.lines.now; tokens = c.args.tokens.now } in
    let limits = c.line.ensures ∙ barge-line c.barge_limits-limits.result c.barge_limits-limits.ensures in
    c.lines_agree.ensures ∙ ap (λ (l : LineLimits). is_recorded q (read_lines l t)) limits
    ∙ lines_decide q t (barge_test t c.barge_limits-limits.ensures c.in-Ok.ensures _ refl)
