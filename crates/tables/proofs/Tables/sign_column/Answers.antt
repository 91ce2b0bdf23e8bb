-- `tables::Tables::sign_column` meets its contract, by the rule of the table at one entry.
use borrow.Author.Rules.{rules}
use Rattle.tables.proofs.Entries.{column_is}
use Rattle.tables.proofs.Tables.sign_column.Goals as goal

pub returns : goal.returns
returns c = column_is c.args.self.now.signs_right c.args.b (search rules)
