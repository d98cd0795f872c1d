use Rattle.std.proofs.Common.{◌≡◌, ◌+◌, ◌≤◌, length, drop}
use Rattle.geometry.specs.Keys.{number_of}
use Rattle.ordered.specs.Lists.{SameMemory}
use Rattle.ordered.specs.Tables.{room}
use Rattle.rack.specs.Sealing.{taken, not_taken}
use Rattle.manager.specs.Tables.{entries_in}
use Rattle.manager.specs.Taking.{slots_with, blocks_in, new_count}
use Rattle.manager.proofs.taking.take_all.Given as goal

-- what is still to be taken leaves what all slots leave, and there is room for the new blocks among it
abbrev pub invariant-loop-slot : goal.invariant-loop-slot
invariant-loop-slot l =
    let k = number_of l.key in
    let es = entries_in l.table in
    let old = entries_in l.fn.table in
    let rest = drop l.slot l.deltas in
    (taken k l.slot es (slots_with rest) ≡ taken k 0 old (slots_with l.deltas))
    × (l.passed_over + not_taken k l.slot es (slots_with rest) ≡ not_taken k 0 old (slots_with l.deltas))
    × (length es + new_count es (blocks_in rest) ≤ room l.table)
    × (l.passed_over ≤ l.slot)
    × SameMemory l.fn.table.list l.table.list
