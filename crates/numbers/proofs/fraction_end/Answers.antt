-- `numbers::fraction_end` meets its contract.
use mathlib.Core.Path.{sym, ◌∙◌}
use native.Mathlib.Omega.{arith}
use Rattle.numbers.proofs.Numbers.{fraction-short, fraction-other, fraction_digitless, fraction-is}
use Rattle.numbers.proofs.fraction_end.Goals.{then-line-at-lt2-via-then-line-at-lt2, then-line-at-lt2-via-else-line-at-lt2+then-line-at-ne46, then-line-at-lt2-via-else-line-at-lt2+else-line-at-ne46+then-not-is_digit}
use Rattle.numbers.proofs.fraction_end.Goals as goal

pub returns-then-line-at-lt2 : goal.returns-then-line-at-lt2
returns-then-line-at-lt2 c =
    let l = c.args.line.now in
    let at = c.args.at in
    elim c.then-line-at-lt2.branch [
      | then-line-at-lt2-via-then-line-at-lt2 w ↦ omega (arith, fraction-short l at (omega (arith, w.if-line-at-lt2.true)))
      | then-line-at-lt2-via-else-line-at-lt2+then-line-at-ne46 w ↦ omega (arith, fraction-other l at (omega (arith, w.if-line-at-lt2.false)) w.if-line-at-ne46.true)
      | then-line-at-lt2-via-else-line-at-lt2+else-line-at-ne46+then-not-is_digit w ↦ omega (arith, fraction_digitless l at (omega (arith, w.if-line-at-lt2.false)) (sym w.is_digit.ensures ∙ w.if-not-is_digit.true))
    ]

pub returns : goal.returns
returns c =
    let a = c.args in
    omega (arith, c.run_end.ensures, fraction-is a.line.now a.at (omega arith) c.if-line-at-ne46.false (sym c.is_digit.ensures ∙ c.if-not-is_digit.false))
