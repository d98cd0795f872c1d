use Rattle.std.proofs.Common.{◌≡◌, ℕ, ◌<◌, length, get_or, None, Ok}
use Rattle.fragment.specs.Slots.{read_slot, delta_answer}
use Rattle.fragment.specs.Fragments.{slot_in}
use Rattle.fragment.proofs.codec.read_slots.Given as goal

-- the deltas of the slots so far
abbrev pub invariant-loop-slot : goal.invariant-loop-slot
invariant-loop-slot l =
    (length l.delta-items ≡ 3)
    × ((k : ℕ) → k < l.slot → Ok (get_or l.delta-items k None) ≡ delta_answer (read_slot l.layout (slot_in l.fragment k)))
