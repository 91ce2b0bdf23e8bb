-- `details::Detail::back` meets its contract: each text is the one that stands under the detail's number.
use mathlib.Core.Path.{refl}
use Rattle.std.proofs.Common.{inl, inr}
use Rattle.rules.specs.Failure.{details, detail_of}
use Rattle.details.proofs.Details.{back_none}
use Rattle.details.proofs.Detail.back.Goals as goal

pub returns-in-UnexpectedCharacter : goal.returns-in-UnexpectedCharacter
unfolding details detail_of
returns-in-UnexpectedCharacter c =
    elim c.in-UnexpectedCharacter.is [ inl e ↦ rw e refl | inr (inl e) ↦ rw e refl | inr (inr (inl e)) ↦ rw e refl | inr (inr (inr (inl e))) ↦ rw e refl | inr (inr (inr (inr e))) ↦ rw e refl ]

pub returns-in-ControlCharacter : goal.returns-in-ControlCharacter
unfolding details detail_of
returns-in-ControlCharacter c = rw c.in-ControlCharacter.is refl

pub returns-in_default : goal.returns-in_default
returns-in_default c =
    let n = c.in_default in
    back_none c.args.self n.not-UnexpectedCharacter n.not-ExpectedHexDigit n.not-UnknownEscape n.not-ControlCharacter n.not-NonAscii n.not-ExpectedQuote
