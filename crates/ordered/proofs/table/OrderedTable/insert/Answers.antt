use Rattle.ordered.proofs.Places.{inserted}
use Rattle.ordered.proofs.table.OrderedTable.insert.Goals as goal

pub invariant_of-self : goal.invariant_of-self
invariant_of-self g c = record { rises = (inserted g.E.Keyed.number _ _ _ _ c.args.self.now.rises _ c.key_number.ensures c.in-Err.ensures.place c.insert_at.ensures.items).1 }
