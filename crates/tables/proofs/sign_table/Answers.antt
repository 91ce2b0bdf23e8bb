-- `tables::sign_table` meets its contract: the bytes that are written out are those of the table, by computation.
use mathlib.Core.Path.{refl}
use Rattle.rules.specs.Tables.{table_rules}
use Rattle.tables.specs.Signs.{code_rules}
use Rattle.tables.proofs.sign_table.Goals as goal

pub returns : goal.returns
unfolding code_rules table_rules
returns c = refl
