-- `literals::content_cut` meets its contract.
use Prim.Native.Nat.{◌+◌}
use mathlib.Core.Path.{sym, ◌∙◌}
use native.Mathlib.Omega.{arith}
use Rattle.literals.proofs.Steps.{content-end, content-empty, content-escape, content_control, content-printed, content_foreign}
use Rattle.literals.proofs.content_cut.Goals.{in-127-1, in_default+then-this-lt32}
use Rattle.literals.proofs.content_cut.Goals as goal

pub returns-then-line-at : goal.returns-then-line-at
returns-then-line-at c =
    let a = c.args in
    c.line_ends.ensures ∙ sym (content-end a.line.now (a.at + 2) (omega arith))

pub returns-in-39 : goal.returns-in-39
returns-in-39 c =
    let a = c.args in
    c.failing_at.ensures ∙ sym (content-empty a.line.now (a.at + 2) (omega arith) c.in-39.is)

pub returns-in-92 : goal.returns-in-92
returns-in-92 c =
    let a = c.args in
    c.escape_cut.ensures ∙ sym (content-escape a.line.now (a.at + 2) (omega arith) (λ e. omega arith) (a.at + 3) (omega arith) c.in-92.is)

pub returns-in-32-to-126 : goal.returns-in-32-to-126
returns-in-32-to-126 c =
    let a = c.args in
    c.closing_cut.ensures ∙ sym (content-printed a.line.now (a.at + 2) (omega arith) (λ e. omega arith) (λ e. omega arith) (a.at + 3) (omega arith) (omega arith) (omega arith))

pub returns-in-0-to-127 : goal.returns-in-0-to-127
returns-in-0-to-127 c =
    let a = c.args in
    c.finding_at-in-0-to-127.ensures
    ∙ sym (elim c.in-0-to-127-1.branch [
      | in-127-1 w ↦ content_control a.line.now (a.at + 2) (omega arith) (λ e. omega arith) (λ e. omega arith) (λ h k. omega arith) (omega arith)
      | in_default+then-this-lt32 w ↦ content_control a.line.now (a.at + 2) (omega arith) (λ e. omega arith) (λ e. omega arith) (λ h k. omega arith) (omega arith)
    ])

pub returns-in_default : goal.returns-in_default
returns-in_default c =
    let a = c.args in
    c.finding_at.ensures ∙ sym (content_foreign a.line.now (a.at + 2) (omega arith) (λ e. omega arith) (λ e. omega arith) (omega arith))
