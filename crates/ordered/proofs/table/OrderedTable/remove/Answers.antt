use Rattle.ordered.proofs.Places.{removed}
use Rattle.ordered.proofs.table.OrderedTable.remove.Goals as goal

pub invariant_of-self : goal.invariant_of-self
invariant_of-self g c = record { rises = (removed g.E.Keyed.number _ _ _ _ c.args.self.now.rises c.in-Ok.ensures.place c.remove_at.ensures.items).1 }
