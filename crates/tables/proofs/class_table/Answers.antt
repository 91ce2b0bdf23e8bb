-- `tables::class_table` meets its contract: the bytes that are written out are those of the table, by computation.
use mathlib.Core.Path.{refl}
use Rattle.rules.specs.Tables.{table_rules}
use Rattle.tables.specs.Bytes.{class_table}
use Rattle.tables.proofs.class_table.Goals as goal

pub returns : goal.returns
unfolding class_table table_rules
returns c = refl
