-- `lines::next_line` meets its contract.
use Rattle.std.proofs.Common.{ℕ, ◌≡◌, ◌+◌, ◌≤◌, ◌<◌, refl, sym, ap, ◌∙◌, List, length, drop, length-drop, length-take, arith, Err}
use Rattle.rules.specs.Lists.{run}
use Rattle.rules.specs.Line.{State}
use Rattle.rules.specs.Reading.{not_lf, line_at}
use Rattle.rules.specs.Records.{halt_refusal}
use Rattle.rules.proofs.ListLaws.{run-le}
use Rattle.rules.proofs.FailureLaws.{failure-inside}
use Rattle.refusals.specs.Limits.{line_limits_of}
use Rattle.refusals.specs.declared.Unread.TheVariants as unreads
use Rattle.line.specs.LineCuts.{Counted, counted_of}
use Rattle.line.specs.declared.Halt.{Halt}
use Rattle.lines.proofs.Lines.{line_read, line-fails, line-over, next_start, lent-line}
use Rattle.lines.proofs.next_line.Goals as goal

inside : (t : List ℕ) (p : ℕ) → p < length t → p + length (line_at t p) ≤ length t
inside t p h = omega (arith, h, length-take (run not_lf (drop p t)) (drop p t), length-drop p t)

pub slice_bounds-read_line-end : goal.slice_bounds-read_line-end
slice_bounds-read_line-end g c =
    let a = c.args in
    omega (arith, c.line_end-end.ensures, c.requires.at_in_bounds.0, run-le not_lf (drop a.at a.text.now), length-drop a.at a.text.now)

-- a halt, by what the line answers
halts : {x : Counted} (h k : Halt) (z : State) → counted_of (Err h) z ≡ x → h ≡ k → counted_of (Err k) z ≡ x
halts h k z e f = ap (λ (g : Halt). counted_of (Err g) z) (sym f) ∙ e

pub failure_record-requires : goal.failure_record-requires
failure_record-requires g c =
    let a = c.args in
    let u = c.in-Err-Fails in
    let fails-as = line-fails c.read_line.new.state _ u.f (halts _ _ _ u.ensures.value u.field-0-is) in (
      omega (arith, c.requires.at_in_bounds.1.0, inside a.text.now a.at c.requires.at_in_bounds.0, failure-inside (line_limits_of a.limits) a.state.now (line_at a.text.now a.at) _ (lent-line _ _ _ _ _ c.line_end-end.ensures ∙ fails-as)),
      c.requires.at_in_bounds.1.1.0,
    )

pub returns-in-Ok-clause-step_is : goal.returns-in-Ok-clause-step_is
returns-in-Ok-clause-step_is g c =
    let a = c.args in
    let x = line_read c.read_line.new.state _ _ c.in-Ok.ensures.value in
    (x.0, lent-line _ _ _ _ _ c.line_end-end.ensures ∙ x.1, x.2, c.past_lf.ensures ∙ next_start a.text.now a.at _ c.requires.at_in_bounds.0 c.line_end-end.ensures)

pub returns-in-Err-Fails-clause-step_is : goal.returns-in-Err-Fails-clause-step_is
unfolding halt_refusal
returns-in-Err-Fails-clause-step_is g c =
    let u = c.in-Err-Fails in
    (_, lent-line _ _ _ _ _ c.line_end-end.ensures ∙ line-fails c.read_line.new.state _ u.f (halts _ _ _ u.ensures.value u.field-0-is), ap unreads.Fails c.failure_record.ensures)

pub returns-in-Err-OverLimit-clause-step_is : goal.returns-in-Err-OverLimit-clause-step_is
unfolding halt_refusal
returns-in-Err-OverLimit-clause-step_is g c =
    let u = c.in-Err-OverLimit in
    (_, lent-line _ _ _ _ _ c.line_end-end.ensures ∙ line-over c.read_line.new.state _ u.number (halts _ _ _ u.ensures.value u.field-0-is), refl)
