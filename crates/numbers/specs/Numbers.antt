-- A number's scan of the code, as the rules have it.
-- Assumes nothing.
use Rattle.std.specs.Prelude.{Option, None, Some}
use Rattle.rules.specs.Cut as RulesCut
use Rattle.numbers.specs.declared.Number.{Number}
use Rattle.numbers.specs.declared.Suffix as suffix
use Rattle.numbers.specs.declared.Suffix.TheVariants as a-suffix

abbrev pub rule_suffix : Option suffix.Suffix → RulesCut.Suffix
rule_suffix None = RulesCut.Suffix.no_suffix
rule_suffix (Some a-suffix.Fx) = RulesCut.Suffix.fx
rule_suffix (Some a-suffix.I32) = RulesCut.Suffix.i32
rule_suffix (Some a-suffix.U32) = RulesCut.Suffix.u32
rule_suffix (Some a-suffix.F64) = RulesCut.Suffix.f64

abbrev pub number_of : Number → RulesCut.Number
number_of n = record { base = n.base; digits = n.digits; suffix = rule_suffix n.suffix; end = n.end }
