-- `lexpage::lexpage_panel_column` meets its contract.
use Rattle.lexpage.proofs.lexpage_panel_column.Goals as goal

pub returns : goal.returns
returns c =
    rw c.panel_column.ensures at c.put_number.ensures
