-- `indent::leading_indent_bytes` meets its contract. What is left gives the whole run.
use mathlib.Core.Path.{sym, ◌∙◌}
use native.Mathlib.Omega.{arith}
use Rattle.rules.proofs.ListLaws.{run-pass, run-stop, run_end}
use Rattle.indent.proofs.Indents.{indents, indent_size-run}
use Rattle.indent.proofs.leading_indent_bytes.Goals as goal

pub loop-i-init : goal.loop-i-init
loop-i-init c = (omega arith, omega arith)

pub returns-then-not-is_indent : goal.returns-then-not-is_indent
returns-then-not-is_indent c =
    let l = c.args.line.now in
    let e = run-stop indents l c.loop-i.i (omega arith) (sym c.is_indent.ensures ∙ c.if-not-is_indent.true) in
    omega (arith, indent_size-run l)

pub loop-i-preserved : goal.loop-i-preserved
loop-i-preserved c =
    let l = c.args.line.now in
    let e = run-pass indents l c.loop-i.i (omega arith) (sym c.is_indent.ensures ∙ c.if-not-is_indent.false) in
    omega arith

pub returns : goal.returns
returns c =
    let l = c.args.line.now in
    let e = run_end indents l c.loop-i.i c.loop-i-test.false in
    omega (arith, indent_size-run l)
