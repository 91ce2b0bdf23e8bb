-- `copies::copy_back` meets its contract.
use Rattle.std.proofs.Common.{ap, ◌∙◌}
use Rattle.std.proofs.lemmas.List.Edits.{sets}
use Rattle.std.proofs.lemmas.Slice.{between_is}
use Rattle.copies.proofs.copy_back.Goals as goal

pub returns : goal.returns
returns c = let a = c.args in c.copy_bytes.ensures ∙ ap (sets a.text.now a.a) (between_is a.spare.now a.a a.n)
