-- `utf8::leading_ones` meets its contract: the two counts agree at each of the 256 bytes, by one computed test.
use Prim.Native.Nat.{ℕ, ◌-◌}
use mathlib.Core.Bool.{Bool}
use lib.Dec.{eqb, eqb→eq}
use lib.Count.{count_leading_zeros}
use borrow.Author.Rules.{rules}
use Rattle.laws.proofs.Below.{at}
use Rattle.rules.specs.Lists.{run}
use Rattle.rules.specs.Utf8.{bits_of, leading_ones}
use Rattle.utf8.proofs.leading_ones.Goals as goal

agree : ℕ → Bool
agree b = eqb (count_leading_zeros 8 (255 - b)) (leading_ones b)

pub returns : goal.returns
unfolding agree count_leading_zeros leading_ones bits_of run
returns c = eqb→eq _ _ (at agree 256 tt c.args.b (search rules))
