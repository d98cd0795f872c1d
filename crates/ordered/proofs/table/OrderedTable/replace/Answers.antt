use Rattle.ordered.proofs.Places.{replaced}
use Rattle.ordered.proofs.table.OrderedTable.replace.Goals as goal

pub invariant_of-self : goal.invariant_of-self
invariant_of-self g c = record { rises = (replaced g.E.Keyed.number _ _ _ _ c.args.self.now.rises _ c.key_number.ensures c.in-Ok.ensures.place c.set_at.ensures.items).1 }
