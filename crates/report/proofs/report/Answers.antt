-- `report::report` meets its contract.
use mathlib.Core.Path.{◌≡◌, sym, ap, ◌∙◌}
use borrow.Author.Rules.{rules}
use Rattle.std.specs.Prelude.{Err}
use Rattle.refusals.specs.declared.FailureRecord.{FailureRecord}
use Rattle.refusals.specs.declared.Unread.TheVariants.{Fails}
use Rattle.passes.proofs.Passes.{pass_refused}
use Rattle.report.proofs.Reports.{opened, printable, clear-answer, failed-answer, other-answer}
use Rattle.report.proofs.report.Goals as goal

pub put_failure-requires : goal.put_failure-requires
put_failure-requires c =
    let fails = c.in-Err-Fails in
    printable c.args.text.now fails.f (pass_refused _ (Fails fails.f) (opened _ c.barge_limits.ensures (ap Err (sym fails.field-0-is) ∙ fails.ensures)))

pub returns-in-Ok : goal.returns-in-Ok
returns-in-Ok c =
    let a = c.args in
    let met = clear-answer a.text.now a.out.now _ (opened _ c.barge_limits.ensures c.in-Ok.ensures) in
    record { result_value = met.0; out_after = met.1 }

pub returns-in-Err-Fails : goal.returns-in-Err-Fails
returns-in-Err-Fails c =
    let a = c.args in
    let fails = c.in-Err-Fails in
    let p = c.put_failure in
    let met = failed-answer a.text.now a.out.now fails.f (opened _ c.barge_limits.ensures (ap Err (sym fails.field-0-is) ∙ fails.ensures)) p.result _ (p.ensures.result_value, p.ensures.out_after) in
    record { result_value = met.0; out_after = met.1 }

pub returns-in-Err : goal.returns-in-Err
returns-in-Err c =
    let a = c.args in
    let u = c.in-Err.u in
    let other : (f : FailureRecord) → u ≡ Fails f → ⊥ = λ f e. search rules in
    let met = other-answer a.text.now a.out.now u (opened _ c.barge_limits.ensures c.in-Err.ensures) other in
    record { result_value = met.0; out_after = met.1 }
