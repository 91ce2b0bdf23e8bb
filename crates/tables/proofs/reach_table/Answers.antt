-- `tables::reach_table` meets its contract: the bytes that are written out are those of the table, by computation.
use mathlib.Core.Path.{refl}
use Rattle.rules.specs.Line.{line_rules}
use Rattle.tables.specs.Bytes.{reach_table, reaches}
use Rattle.tables.proofs.reach_table.Goals as goal

pub returns : goal.returns
unfolding reach_table reaches line_rules
returns c = refl
