-- `moving::shift_record` meets its contract.
use Rattle.std.proofs.Common.{refl}
use Rattle.moving.specs.Moved.{shifted}
use Rattle.moving.proofs.Moves.{record_shifted}
use Rattle.moving.proofs.shift_record.Goals as goal

pub returns : goal.returns
unfolding shifted
returns g c =
    let a = c.args in
    let inside = c.requires.shifted_in_record in
    record_shifted g.row.SIZE g.row.A g.row.B a.d a.e inside.0 inside.1 a.ws.now a.at _ _ refl refl
