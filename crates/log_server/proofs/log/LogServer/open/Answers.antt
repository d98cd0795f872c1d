use Rattle.std.proofs.Common.{rules}
use Rattle.log_server.proofs.Areas.{open_counts}
use Rattle.log_server.proofs.Laws.{area_laws}
use Rattle.log_server.proofs.log.LogServer.open.Goals as goal

pub invariant_of-result : goal.invariant_of-result
invariant_of-result c =
    let a = open_counts c.args.area.now c.min-whole.result c.held_in_order.result c.map_or-capacity.result c.min-whole.ensures c.held_in_order.ensures (search rules) in
    record { places = a.0; count = a.1 }

pub returns-clause-laws : goal.returns-clause-laws
returns-clause-laws c = area_laws
