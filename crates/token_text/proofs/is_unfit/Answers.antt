-- `token_text::is_unfit` meets its contract.
use Rattle.rules.specs.Kinds.{is_kind}
use borrow.Author.Rules.{rules}
use Rattle.token_text.proofs.is_unfit.Goals as goal

pub returns-then-kind-gt-NEWLINE : goal.returns-then-kind-gt-NEWLINE
unfolding is_kind
returns-then-kind-gt-NEWLINE c = search rules

pub returns : goal.returns
unfolding is_kind
returns c = search rules
