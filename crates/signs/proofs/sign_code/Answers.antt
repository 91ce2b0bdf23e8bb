-- `signs::sign_code` meets its contract: the code is looked up by the first byte, or by the row and column of the first two.
use mathlib.Core.Path.{◌∙◌}
use native.Mathlib.Omega.{arith}
use borrow.Author.Rules.{rules}
use Rattle.signs.proofs.SignLaws.{by_byte, pair_inside, by_pairs, by_two}
use Rattle.signs.proofs.sign_code.Goals as goal

pub returns-then-row-lt128 : goal.returns-then-row-lt128
returns-then-row-lt128 c = by_byte c.args.line.now c.args.at c.requires (search rules) c.sign_row-row.ensures c.if-row-lt128.true

pub pair_code-code-requires : goal.pair_code-code-requires
pair_code-code-requires c = pair_inside c.args.line.now c.args.at c.requires (search rules) c.sign_row-row.ensures c.if-row-lt128.false c.column_at.ensures

pub returns-then-code-lt128 : goal.returns-then-code-lt128
returns-then-code-lt128 c = by_two c.args.line.now c.args.at c.requires (search rules) c.sign_row-row.ensures c.if-row-lt128.false c.column_at.ensures c.pair_code-code.ensures c.if-code-lt128.true

pub returns : goal.returns
returns c =
    c.longer_sign.ensures
    ∙ by_pairs c.args.line.now c.args.at c.requires (search rules) c.sign_row-row.ensures c.if-row-lt128.false c.column_at.ensures c.pair_code-code.ensures

pub overflow_add-row : goal.overflow_add-row
overflow_add-row c = omega (arith, pair_inside c.args.line.now c.args.at c.requires (search rules) c.sign_row-row.ensures c.if-row-lt128.false c.column_at.ensures)
