-- `lines::code_of` meets its contract.
use Rattle.lines.proofs.Codes.{code_at, code-past}
use Rattle.lines.proofs.code_of.Goals as goal

pub returns-then-detail-gt12 : goal.returns-then-detail-gt12
returns-then-detail-gt12 c = code-past c.args.detail c.if-detail-gt12.true

pub returns : goal.returns
returns c = code_at c.args.detail c.if-detail-gt12.false
