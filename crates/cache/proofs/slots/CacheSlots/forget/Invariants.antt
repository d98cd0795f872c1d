use Rattle.std.proofs.Common.{◌≡◌, ◌++◌, take, drop}
use Rattle.geometry.specs.Keys.{number_of}
use Rattle.cache.specs.Slots.{forgotten}
use Rattle.cache.proofs.slots.CacheSlots.forget.Given as goal

-- the slots passed so far are swept, the others as they were
abbrev pub invariant-loop-slot : goal.invariant-loop-slot
invariant-loop-slot l =
    l.slot-items
    ≡ forgotten (number_of l.key) (take l.slot-index l.initial.slot-items) ++ drop l.slot-index l.initial.slot-items
