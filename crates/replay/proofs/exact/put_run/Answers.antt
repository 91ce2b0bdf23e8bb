use Rattle.std.proofs.Common.{inl}
use Rattle.std.proofs.lemmas.Result.{IfOk-weaker}
use Rattle.replay.proofs.exact.put_run.Goals as goal

pub returns-in-None : goal.returns-in-None
returns-in-None g c = IfOk-weaker c.put_units.result _ _ (λ _ puts. (puts.0, puts.1, inl puts.2)) c.put_units.ensures
