-- `indent::blank_end` meets its contract. What is left gives the whole run.
use mathlib.Core.Path.{sym, ◌∙◌}
use native.Mathlib.Omega.{arith}
use Rattle.rules.specs.Tables.{is_blank}
use Rattle.rules.proofs.ListLaws.{run-pass, run-stop, run_end}
use Rattle.indent.proofs.Spaces.{spaces_le, blanks-behind}
use Rattle.indent.proofs.blank_end.Goals as goal

pub loop-i-init : goal.loop-i-init
loop-i-init c =
    (spaces_le c.args.line.now c.args.spaces c.requires, sym (blanks-behind c.args.line.now c.args.spaces c.requires))

pub returns-then-not-is_blank : goal.returns-then-not-is_blank
returns-then-not-is_blank c =
    let e = run-stop is_blank c.args.line.now c.loop-i.i (omega arith) (sym c.is_blank.ensures ∙ c.if-not-is_blank.true) in
    omega arith

pub loop-i-preserved : goal.loop-i-preserved
loop-i-preserved c =
    let e = run-pass is_blank c.args.line.now c.loop-i.i (omega arith) (sym c.is_blank.ensures ∙ c.if-not-is_blank.false) in
    omega arith

pub returns : goal.returns
returns c =
    let e = run_end is_blank c.args.line.now c.loop-i.i c.loop-i-test.false in
    omega arith
