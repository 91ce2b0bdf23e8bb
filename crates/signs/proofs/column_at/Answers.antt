-- `signs::column_at` meets its contract.
use mathlib.Core.Path.{ap, sym, ◌∙◌}
use lib.Seq.{drop-cons}
use Rattle.signs.specs.Codes.{column_of}
use Rattle.signs.proofs.SignLaws.{no_column}
use Rattle.signs.proofs.column_at.Goals as goal

pub returns-then-line-at : goal.returns-then-line-at
returns-then-line-at c = no_column _ _ c.if-line-at.true

pub returns : goal.returns
returns c = c.sign_column.ensures ∙ sym (ap column_of (drop-cons c.args.line.now c.args.at 0 c.if-line-at.false))
