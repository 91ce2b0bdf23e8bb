-- A number's parts in words, as the reply of the rules has them.
-- Assumes nothing.
use Rattle.std.specs.Prelude.{Option, Some, None, Result}
use Rattle.std.proofs.Math.Option as math
use Rattle.rules.specs.Replies.{Reply}
use Rattle.rules.specs.Cut as RulesCut
use Rattle.rules.specs.Numbers.{parts_words}
use Rattle.refusals.specs.Replies.{text_reply_of}
use Rattle.refusals.specs.declared.Unread.{Unread}
use Rattle.numbers.specs.Numbers.{number_of}
use Rattle.numbers.specs.declared.Number.{Number}

-- a number or none, of the code in the rules
abbrev pub number_in : Option Number → math.Option RulesCut.Number
number_in (Some n) = math.some (number_of n)
number_in None = math.none

abbrev pub parts_numbers : Result (Option Number) Unread → Reply
parts_numbers = text_reply_of (λ n. parts_words (number_in n))
