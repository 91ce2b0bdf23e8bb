-- The details by their numbers.
-- Assumes nothing.
use Rattle.std.specs.Prelude.{ℕ, ◌≡◌, ◌<◌, ◌⊎◌, Result, MatchResult}
use Rattle.rules.specs.Failure.{Shows, nothing, scalar, hex_digits, unexpected_character, expected_and, unterminated_string, bad_indent, unterminated, empty, escape_above, expected_hex_digit, unknown_escape, control_character, non_ascii, expected_quote}
use Rattle.details.specs.declared.Detail.{Detail}
use Rattle.details.specs.declared.Detail.TheVariants.{UnexpectedCharacter, ExpectedAnd, UnterminatedString, BadIndent, Unterminated, Empty, EscapeAbove, ExpectedHexDigit, UnknownEscape, ControlCharacter, NonAscii, ExpectedQuote}
use Rattle.details.specs.declared.Shown.{Shown}
use Rattle.details.specs.declared.Shown.TheVariants.{Nothing, Scalar, HexDigits}
use Rattle.details.specs.declared.UnknownDetail.{UnknownDetail}

abbrev pub number_of : Detail → ℕ
number_of UnexpectedCharacter = unexpected_character
number_of ExpectedAnd = expected_and
number_of UnterminatedString = unterminated_string
number_of BadIndent = bad_indent
number_of Unterminated = unterminated
number_of Empty = empty
number_of EscapeAbove = escape_above
number_of ExpectedHexDigit = expected_hex_digit
number_of UnknownEscape = unknown_escape
number_of ControlCharacter = control_character
number_of NonAscii = non_ascii
number_of ExpectedQuote = expected_quote

-- the detail with this number, or no detail has it
abbrev pub Numbered : ℕ → Result Detail UnknownDetail → Type 0
Numbered n r = MatchResult r (λ d. number_of d ≡ n) (λ e. (e.0 ≡ n) × ((n < 1) ⊎ (12 < n)))

-- what a detail shows of the scalar found
abbrev pub shows_of : Shown → Shows
shows_of Nothing = nothing
shows_of Scalar = scalar
shows_of HexDigits = hex_digits
