-- `tables::Tables::keyword_start` meets its contract, by the rule of the table at one entry.
use Rattle.tables.proofs.Entries.{start_is}
use Rattle.tables.proofs.Tables.keyword_start.Goals as goal

pub returns : goal.returns
returns c = start_is c.args.self.now.keywords_right c.args.letter c.requires
