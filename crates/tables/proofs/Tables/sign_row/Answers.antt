-- `tables::Tables::sign_row` meets its contract, by the rule of the table at one entry.
use borrow.Author.Rules.{rules}
use Rattle.tables.proofs.Entries.{row_is}
use Rattle.tables.proofs.Tables.sign_row.Goals as goal

pub returns : goal.returns
returns c = row_is c.args.self.now.sign_rows_right c.args.b (search rules)
