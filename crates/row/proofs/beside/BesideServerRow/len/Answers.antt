use Rattle.std.proofs.Common.{arith}
use Rattle.std.proofs.lemmas.List.{length-append, length-take}
use Rattle.row.proofs.beside.BesideServerRow.len.Goals as goal

pub returns : goal.returns
returns g c = simp (length-append, length-take) (omega arith)
