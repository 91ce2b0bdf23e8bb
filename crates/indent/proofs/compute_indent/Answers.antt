-- `indent::compute_indent` meets its contract. What is left gives the whole width.
use mathlib.Core.Path.{sym}
use native.Mathlib.Omega.{arith}
use Rattle.indent.proofs.Spaces.{spaces_le, width-behind}
use Rattle.indent.proofs.Indents.{width_space, width_tab, width-other, width-end}
use Rattle.indent.proofs.compute_indent.Goals.{in-32, in-9}
use Rattle.indent.proofs.compute_indent.Goals as goal

pub overflow_cast-width : goal.overflow_cast-width
overflow_cast-width c = omega (arith, spaces_le c.args.line.now c.args.spaces c.requires.1)

pub loop-i-init : goal.loop-i-init
loop-i-init c =
    (spaces_le c.args.line.now c.args.spaces c.requires.1, omega arith, sym (width-behind c.args.line.now c.args.spaces c.requires.1))

pub loop-i-preserved : goal.loop-i-preserved
loop-i-preserved c =
    elim c.match-line-i.branch [
      | in-32 w ↦ let e = width_space c.args.line.now c.loop-i.i (omega arith) w.in-32.is in omega arith
      | in-9 w ↦ let e = width_tab c.args.line.now c.loop-i.i (omega arith) (λ h. omega arith) w.in-9.is in omega arith
    ]

pub returns-in_default : goal.returns-in_default
returns-in_default c =
    let e = width-other c.args.line.now c.loop-i.i (omega arith) (λ h. omega arith) (λ h. omega arith) in
    omega arith

pub returns : goal.returns
returns c =
    let e = width-end c.args.line.now c.loop-i.i c.loop-i-test.false in
    omega arith
