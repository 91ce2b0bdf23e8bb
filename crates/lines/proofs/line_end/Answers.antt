-- `lines::line_end` meets its contract.
use Rattle.rules.specs.Reading.{not_lf}
use Rattle.lines.proofs.line_end.Goals as goal

pub returns : goal.returns
unfolding not_lf
returns c = c.find_byte.ensures
