-- `tables::Tables::keyword_byte` meets its contract.
use Prim.Native.Nat.{ℕ, ◌+◌, ◌*◌}
use mathlib.Core.Path.{ap}
use mathlib.Core.List.{List}
use lib.ListN.{get_or}
use Rattle.tables.proofs.Tables.keyword_byte.Goals as goal

pub returns : goal.returns
returns c = ap (λ (k : List ℕ). get_or k (11 * c.args.row + 2 + c.args.j) 0) c.args.self.now.keywords_right
