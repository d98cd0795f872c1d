use Rattle.row.proofs.Sides.{on_side}
use Rattle.row.proofs.beside.Beside.in_right.Goals as goal

pub returns : goal.returns
returns g c = on_side _ _ _ _ _ c.len.ensures c.checked_sub.ensures
