-- The value in words, as the reply of the rules has it.
-- Assumes nothing.
use Rattle.std.specs.Prelude.{ℕ, Option, Result, if◌then◌else◌}
use Rattle.std.proofs.Math.Option as math
use Rattle.rules.specs.Replies.{Reply}
use Rattle.rules.specs.Tables.{is_hex_digit}
use Rattle.rules.specs.ByteValue.{hex_value, value_words}
use Rattle.refusals.specs.Replies.{option_of, text_reply_of}
use Rattle.refusals.specs.declared.Unread.{Unread}

abbrev pub value_numbers : Result (Option ℕ) Unread → Reply
value_numbers = text_reply_of (λ v. value_words (option_of v))

-- the value of a hex digit; none for any other byte
unfoldable pub digit_value : ℕ → math.Option ℕ
digit_value b = if is_hex_digit b then math.some (hex_value b) else math.none
