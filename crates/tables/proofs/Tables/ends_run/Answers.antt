-- `tables::Tables::ends_run` meets its contract, by the rule of the table at one entry of the run's part.
use Prim.Native.Nat.{◌+◌, ◌*◌}
use mathlib.Core.Path.{◌≡◌}
use native.Mathlib.Omega.{arith}
use borrow.Author.Rules.{rules}
use denote.Enum.Declared.{tag_of}
use lib.ListN.{get_or}
use Rattle.rules.specs.Lists.{bit}
use Rattle.tables.specs.Bytes.{misses}
use Rattle.tables.specs.Named.{run_number}
use Rattle.tables.specs.contracts.Run.{the_type}
use Rattle.tables.specs.declared.Run.TheVariants.{Word, Hex, Decimal, Spaces}
use Rattle.tables.proofs.Entries.{miss_bit}
use Rattle.tables.proofs.Tables.ends_run.Goals as goal

pub returns : goal.returns
returns c =
    let t = c.args.self.now in
    elim c.args.run as (λ r. get_or t.run_ends (256 * tag_of the_type r + c.args.b) 0 ≡ bit (misses (run_number r) c.args.b)) [
      | Word ↦ miss_bit t.run_ends_right 0 c.args.b (omega arith) (search rules)
      | Hex ↦ miss_bit t.run_ends_right 1 c.args.b (omega arith) (search rules)
      | Decimal ↦ miss_bit t.run_ends_right 2 c.args.b (omega arith) (search rules)
      | Spaces ↦ miss_bit t.run_ends_right 3 c.args.b (omega arith) (search rules)
    ]
