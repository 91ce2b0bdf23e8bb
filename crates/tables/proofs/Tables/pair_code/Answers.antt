-- `tables::Tables::pair_code` meets its contract, by the rule of the table at one entry.
use Rattle.tables.proofs.Entries.{code_is}
use Rattle.tables.proofs.Tables.pair_code.Goals as goal

pub returns : goal.returns
returns c = code_is c.args.self.now.signs_right c.args.pair c.requires
