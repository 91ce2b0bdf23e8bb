-- `tables::keyword_table` meets its contract: the bytes that are written out are those of the table, by computation.
use mathlib.Core.Path.{refl}
use Rattle.rules.specs.Tables.{table_rules}
use Rattle.tables.specs.Keywords.{row_rules}
use Rattle.tables.proofs.keyword_table.Goals as goal

pub returns : goal.returns
unfolding row_rules table_rules
returns c = refl
