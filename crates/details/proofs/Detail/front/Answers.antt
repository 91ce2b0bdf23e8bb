-- `details::Detail::front` meets its contract: each text is the one that stands under the detail's number.
use mathlib.Core.Path.{refl}
use Rattle.rules.specs.Failure.{details, detail_of}
use Rattle.details.proofs.Detail.front.Goals as goal

pub returns-in-UnexpectedCharacter : goal.returns-in-UnexpectedCharacter
unfolding details detail_of
returns-in-UnexpectedCharacter c = rw c.in-UnexpectedCharacter.is refl

pub returns-in-ExpectedAnd : goal.returns-in-ExpectedAnd
unfolding details detail_of
returns-in-ExpectedAnd c = rw c.in-ExpectedAnd.is refl

pub returns-in-UnterminatedString : goal.returns-in-UnterminatedString
unfolding details detail_of
returns-in-UnterminatedString c = rw c.in-UnterminatedString.is refl

pub returns-in-BadIndent : goal.returns-in-BadIndent
unfolding details detail_of
returns-in-BadIndent c = rw c.in-BadIndent.is refl

pub returns-in-Unterminated : goal.returns-in-Unterminated
unfolding details detail_of
returns-in-Unterminated c = rw c.in-Unterminated.is refl

pub returns-in-Empty : goal.returns-in-Empty
unfolding details detail_of
returns-in-Empty c = rw c.in-Empty.is refl

pub returns-in-EscapeAbove : goal.returns-in-EscapeAbove
unfolding details detail_of
returns-in-EscapeAbove c = rw c.in-EscapeAbove.is refl

pub returns-in-ExpectedHexDigit : goal.returns-in-ExpectedHexDigit
unfolding details detail_of
returns-in-ExpectedHexDigit c = rw c.in-ExpectedHexDigit.is refl

pub returns-in-UnknownEscape : goal.returns-in-UnknownEscape
unfolding details detail_of
returns-in-UnknownEscape c = rw c.in-UnknownEscape.is refl

pub returns-in-ControlCharacter : goal.returns-in-ControlCharacter
unfolding details detail_of
returns-in-ControlCharacter c = rw c.in-ControlCharacter.is refl

pub returns-in-NonAscii : goal.returns-in-NonAscii
unfolding details detail_of
returns-in-NonAscii c = rw c.in-NonAscii.is refl

pub returns-in-ExpectedQuote : goal.returns-in-ExpectedQuote
unfolding details detail_of
returns-in-ExpectedQuote c = rw c.in-ExpectedQuote.is refl
