use Rattle.std.proofs.Common.{◌≡◌, ◌*◌, ◌≤◌, length}
use Rattle.std.specs.List.{range_with_len, flat_map}
use Rattle.rack.specs.Gathering.{live_slots}
use Rattle.manager.specs.Live.{OfStripe}
use Rattle.manager.proofs.live.LiveSlots.count.Given as goal

abbrev pub invariant-loop-index : goal.invariant-loop-index
invariant-loop-index l =
    (l.count ≤ 3 * l.index)
    × OfStripe l.self.slots (λ es k. l.count ≡ length (flat_map (live_slots es k) (range_with_len 0 l.index)))
