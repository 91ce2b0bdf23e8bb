-- `tables::Tables::class_of` meets its contract: the number that is looked up is the class, and no class is above 6.
use native.Mathlib.Omega.{arith}
use borrow.Author.Rules.{rules}
use Rattle.tables.proofs.Entries.{class_is, class_small}
use Rattle.tables.proofs.Tables.class_of.Goals as goal

pub returns-in-0 : goal.returns-in-0
returns-in-0 c = omega (arith, c.in-0.is, class_is c.args.self.now.classes_right c.args.b (search rules))

pub returns-in-1 : goal.returns-in-1
returns-in-1 c = omega (arith, c.in-1.is, class_is c.args.self.now.classes_right c.args.b (search rules))

pub returns-in-2 : goal.returns-in-2
returns-in-2 c = omega (arith, c.in-2.is, class_is c.args.self.now.classes_right c.args.b (search rules))

pub returns-in-3 : goal.returns-in-3
returns-in-3 c = omega (arith, c.in-3.is, class_is c.args.self.now.classes_right c.args.b (search rules))

pub returns-in-4 : goal.returns-in-4
returns-in-4 c = omega (arith, c.in-4.is, class_is c.args.self.now.classes_right c.args.b (search rules))

pub returns-in-5 : goal.returns-in-5
returns-in-5 c = omega (arith, c.in-5.is, class_is c.args.self.now.classes_right c.args.b (search rules))

pub returns-in_default : goal.returns-in_default
returns-in_default c = omega (arith, class_is c.args.self.now.classes_right c.args.b (search rules), class_small c.args.b (search rules))
