-- `fresh_page::fresh` meets its contract.
use mathlib.Core.Path.{ap, ◌∙◌}
use mathlib.Core.List.{List, ◌++◌}
use Prim.Native.Nat.{ℕ}
use lib.ListN.{drop, replicate}
use lib.Seq.{length-take-le}
use Rattle.rules.specs.Lists.{overwrite}
use Rattle.rules.specs.Records.{line_size}
use Rattle.fresh_page.proofs.FreshPages.{fresh_short, fresh_long}
use Rattle.fresh_page.proofs.fresh.Goals as goal

pub returns-then-lines-lt-LINE : goal.returns-then-lines-lt-LINE
returns-then-lines-lt-LINE c =
    let met = fresh_short c.args.lines.now c.if-lines-lt-LINE.true in
    record { result_value = met.0; lines_after = met.1 }

pub returns : goal.returns
unfolding overwrite
returns c =
    let a = c.args.lines.now in
    let zeros = c.fill.ensures.after (λ y h. h) ∙ ap (λ (n : ℕ). replicate n 0) (length-take-le line_size a c.if-lines-lt-LINE.false) in
    let met = fresh_long a c.if-lines-lt-LINE.false _ (ap (λ (l : List ℕ). l ++ drop line_size a) zeros) in
    record { result_value = met.0; lines_after = met.1 }
