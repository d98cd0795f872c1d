use Rattle.std.proofs.Common.{arith}
use Rattle.manager.specs.Tables.{entries_in}
use Rattle.manager.specs.Taking.{blocks_in}
use Rattle.manager.proofs.Counting.{counted, none_left}
use Rattle.manager.proofs.fresh.new_blocks.Goals as goal

pub returns : goal.returns
returns c =
    let es = entries_in c.args.table.now in
    let none = none_left es c.loop-slot.rest.now c.in_default.ensures.cases in
    let all = counted es (blocks_in c.args.deltas.now) in
    let i = c.loop-slot.invariant.0 in
    omega arith
