-- The number at the front of a text, with digits and suffix told apart (F-1).
-- Assumes nothing.
use Rattle.std.specs.Prelude.{ℕ, Bool, false, List, [], ◌∷◌, if◌then◌else◌}
use Rattle.std.proofs.Math.Option.{Option, none, some}
use Rattle.rules.specs.Tables.{is_digit}
use Rattle.rules.specs.Cut.{Suffix, no_suffix, fx, i32, u32, f64, Number, scan_number, cut_rules}
use Rattle.rules.specs.Replies.{Reply, numbered, accepted, first_of, unless, long_test, form_test, reply_rules}

unfoldable pub begins_with_digit : List ℕ → Bool
begins_with_digit [] = false
begins_with_digit (b ∷ s) = is_digit b

-- none where the text does not begin with a digit; what stands behind the number does not matter
unfoldable pub number_parts : List ℕ → Option Number
number_parts t = if begins_with_digit t then some (scan_number t) else none

-- in the order of `suffixes`, from 1
unfoldable pub suffix_number : Suffix → ℕ
suffix_number no_suffix = 0
suffix_number fx = 1
suffix_number i32 = 2
suffix_number u32 = 3
suffix_number f64 = 4

-- 1, end, base, where digits, `_` and fraction end, and suffix; or 0 for none
unfoldable pub parts_words : Option Number → List ℕ
parts_words none = 0 ∷ []
parts_words (some n) = 1 ∷ n.end ∷ n.base ∷ n.digits ∷ suffix_number n.suffix ∷ []

-- after 1 and 2
unfoldable pub parts_reply : List ℕ → Reply
parts_reply t = unless (first_of (long_test t ∷ form_test t ∷ [])) numbered (accepted (parts_words (number_parts t)))

-- opens the definitions above, and those of the modules below, where a proof says `unfolding number_rules`
unfoldable pub number_rules : Unit {0}
unfolding begins_with_digit number_parts suffix_number parts_words parts_reply cut_rules reply_rules
number_rules = tt
