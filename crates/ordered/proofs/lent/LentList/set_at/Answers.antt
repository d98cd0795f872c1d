use Rattle.std.proofs.Common.{arith}
use Rattle.std.proofs.Math.Seq.{take-set-lt}
use Rattle.std.proofs.lemmas.List.{length-take}
use Rattle.ordered.proofs.lent.LentList.set_at.Goals as goal

pub returns-clause-items : goal.returns-clause-items
returns-clause-items g c =
    let l = c.args.self.now in
    let fits = length-take l.len l.slots.now in
    take-set-lt l.len l.slots.now c.args.at c.args.e (omega arith)
