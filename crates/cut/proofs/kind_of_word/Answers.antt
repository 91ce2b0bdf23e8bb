-- `cut::kind_of_word` meets its contract.
use Prim.Native.Nat.{◌-◌}
use mathlib.Core.Path.{sym, ap, ◌∙◌}
use mathlib.Core.Bool.{Bool}
use lib.ListN.{drop, take}
use Rattle.rules.specs.Tables.{keywords, word_kind}
use Rattle.cut.specs.Cuts.{kind_asked}
use Rattle.cut.proofs.Words.{word_below}
use Rattle.cut.proofs.kind_of_word.Goals as goal

pub returns : goal.returns
returns c =
    let w = take (c.args.end - c.args.at) (drop c.args.at c.args.line.now) in
    sym (word_below w) ∙ ap (λ (b : Bool). kind_asked b (word_kind keywords w)) (sym c.if-named.false)
