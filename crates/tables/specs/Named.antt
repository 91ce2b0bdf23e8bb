-- The numbers of classes and runs.
-- Assumes nothing.
use Rattle.std.specs.Prelude.{ℕ}
use Rattle.rules.specs.Tables.{blank_class, hash_class, letter_class, digit_class, quote_class, sign_class, other_class}
use Rattle.tables.specs.declared.Class as class
use Rattle.tables.specs.declared.Class.TheVariants as a-class
use Rattle.tables.specs.declared.Run as run
use Rattle.tables.specs.declared.Run.TheVariants as a-run

abbrev pub class_number : class.Class → ℕ
class_number a-class.Blank = blank_class
class_number a-class.Hash = hash_class
class_number a-class.Letter = letter_class
class_number a-class.Digit = digit_class
class_number a-class.Quote = quote_class
class_number a-class.Sign = sign_class
class_number a-class.Other = other_class

-- which run of `reaches`
abbrev pub run_number : run.Run → ℕ
run_number a-run.Word = 0
run_number a-run.Hex = 1
run_number a-run.Decimal = 2
run_number a-run.Spaces = 3
