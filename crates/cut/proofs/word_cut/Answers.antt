-- `cut::word_cut` meets its contract.
use native.Mathlib.Omega.{arith}
use Rattle.tables.specs.Bytes.{reaches}
use Rattle.runs.proofs.ReachLaws.{run_inside}
use Rattle.cut.proofs.Words.{word-is}
use Rattle.cut.proofs.word_cut.Goals as goal

pub kind_of_word-requires : goal.kind_of_word-requires
kind_of_word-requires c =
    let end = c.run_end-end.ensures in
    (omega (arith, end), omega (arith, end, run_inside (reaches 0) c.args.line.now c.args.at c.requires))

pub overflow_sub-result : goal.overflow_sub-result
overflow_sub-result c = omega (arith, c.run_end-end.ensures)

pub returns : goal.returns
returns c =
    let a = c.args in
    let end = c.run_end-end in
    word-is a.line.now a.at end.result end.ensures a.named c.kind_of_word.result c.kind_of_word.ensures
