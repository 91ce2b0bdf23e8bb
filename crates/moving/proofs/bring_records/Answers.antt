-- `moving::bring_records` meets its contract.
use Rattle.moving.proofs.Moves.{record_width, batch_brought}
use Rattle.moving.proofs.bring_records.Goals as goal

pub returns : goal.returns
returns g c =
    let a = c.args in
    let inside = c.requires.shifted_in_record in
    let room = c.requires.in_bounds in
    batch_brought (record_width g.row.SIZE g.row.A g.row.B a.d a.e inside.0 inside.1) a.ws.now c.copy_within.new.self c.shift_records.new.ws a.from a.to a.count
    room.0 room.1 c.copy_within.ensures.after c.shift_records.ensures
