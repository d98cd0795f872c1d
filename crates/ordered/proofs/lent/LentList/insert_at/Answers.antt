use Rattle.std.proofs.Common.{arith}
use Rattle.ordered.proofs.Fronts.{front_inserted}
use Rattle.ordered.proofs.lent.LentList.insert_at.Goals as goal

pub returns-clause-items : goal.returns-clause-items
returns-clause-items g c =
    let l = c.args.self.now in
    front_inserted l.len l.slots.now c.count-count.result c.args.at c.rotate_right.new.self c.count-count.ensures.items c.args.e (omega arith) (omega arith) c.rotate_right.ensures.after
