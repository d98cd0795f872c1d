use Rattle.std.proofs.Common.{◌≡◌, ◌+◌, ◌≤◌, length}
use Rattle.manager.specs.Tables.{entries_in}
use Rattle.manager.specs.Taking.{blocks_in, new_count}
use Rattle.manager.proofs.fresh.new_blocks.Given as goal

-- those counted and those still to be counted are all; a count passes no slot twice
abbrev pub invariant-loop-slot : goal.invariant-loop-slot
invariant-loop-slot l =
    (l.count + new_count (entries_in l.table) (blocks_in l.rest) ≡ new_count (entries_in l.table) (blocks_in l.deltas))
    × (l.count + length l.rest ≤ 21)

abbrev pub decreases-loop-slot : goal.decreases-loop-slot
decreases-loop-slot l = length l.rest
