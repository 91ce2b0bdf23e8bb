use Rattle.std.proofs.Common.{inl}
use Rattle.replay.proofs.units.put_recorded_run.Goals as goal

pub returns-else-room-len-clause-spelled : goal.returns-else-room-len-clause-spelled
returns-else-room-len-clause-spelled g c =
    let puts = c.in_ok-put_recorded-in-None.ensures in
    (puts.0, puts.1, inl puts.2)
