-- `records::line_words` meets its contract.
use Rattle.std.proofs.Common.{◌∷◌, ◌∙◌, append-nil}
use Rattle.rules.specs.Records.{line_record}
use Rattle.records.proofs.line_words.Goals as goal

pub returns : goal.returns
unfolding line_record
returns c = let w = append-nil c.copy_from_slice.new.self ∙ c.copy_from_slice.ensures.after ∙ c.words.ensures in λ x. c.args.place.start ∷ c.args.place.first ∷ w x
