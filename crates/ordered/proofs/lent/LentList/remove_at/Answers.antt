use Rattle.std.proofs.Common.{arith}
use Rattle.ordered.proofs.Fronts.{front_removed}
use Rattle.ordered.proofs.lent.LentList.remove_at.Goals as goal

pub returns-clause-items : goal.returns-clause-items
returns-clause-items g c =
    let l = c.args.self.now in
    front_removed l.len l.slots.now c.count-count.result c.args.at c.rotate_left.new.self c.count-count.ensures.items (omega arith) (omega arith) c.rotate_left.ensures.after
