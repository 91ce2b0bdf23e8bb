-- `numbers::digits_end` meets its contract.
use mathlib.Core.Path.{sym, ◌∙◌}
use native.Mathlib.Omega.{arith}
use lib.ListN.{drop, length-drop}
use Rattle.rules.proofs.CutLaws.{hex-room}
use Rattle.tables.specs.Bytes.{reaches}
use Rattle.runs.proofs.ReachLaws.{run_inside}
use Rattle.numbers.proofs.Numbers.{hex-digits, decimal-digits}
use Rattle.numbers.proofs.digits_end.Goals as goal

pub run_end-requires : goal.run_end-requires
run_end-requires c =
    let a = c.args in
    let room = hex-room (drop a.at a.line.now) (sym c.requires.1 ∙ c.if-hex.true) in
    omega (arith, room, length-drop a.at a.line.now)

pub returns-then-hex : goal.returns-then-hex
returns-then-hex c =
    omega (arith, c.run_end.ensures, hex-digits c.args.line.now c.args.at (sym c.requires.1 ∙ c.if-hex.true))

pub fraction_end-requires : goal.fraction_end-requires
fraction_end-requires c =
    omega (arith, c.run_end-end.ensures, run_inside (reaches 2) c.args.line.now c.args.at c.requires.0)

pub returns : goal.returns
returns c =
    let r = c.run_end-end in
    omega (arith, c.fraction_end.ensures, decimal-digits c.args.line.now c.args.at (sym c.requires.1 ∙ c.if-hex.false) r.result r.ensures)
