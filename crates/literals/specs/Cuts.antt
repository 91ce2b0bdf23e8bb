-- Failures and literals of the code, as the rules have them.
-- Assumes nothing.
use Rattle.std.specs.Prelude.{ℕ, Result, Ok, Err}
use Rattle.rules.specs.Failure as RulesFailure
use Rattle.rules.specs.Cut as RulesCut
use Rattle.literals.specs.declared.Failure.{Failure}

abbrev pub failure_of : Failure → RulesFailure.Failure
failure_of f = RulesFailure.failure f.detail f.found f.at f.size

-- a token of this kind, by its size, or a failure
abbrev pub token_of : (kind : ℕ) → Result ℕ Failure → RulesCut.Cut
token_of kind (Ok n) = RulesCut.Cut.token kind n
token_of kind (Err f) = RulesCut.Cut.fails (failure_of f)
