-- `records::put_token` meets its contract.
use Rattle.records.proofs.put_token.Goals as goal

pub returns : goal.returns
returns g c = c.put_record.ensures
