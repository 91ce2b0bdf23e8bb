-- `cursor::cursor_at` meets its contract.
use mathlib.Core.Path.{refl}
use Rattle.cursor.proofs.cursor_at.Goals as goal

pub returns : goal.returns
returns c = refl
