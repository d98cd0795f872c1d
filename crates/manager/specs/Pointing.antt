-- Entries that point into a data fragment, and its slots.
use Rattle.std.specs.Prelude.{ℕ, Bool, not, ◌||◌, List, Option}
use Rattle.fragment.specs.Slots.{Filled}
use Rattle.rack.specs.Entries.{Entry}
use Rattle.rack.specs.Fragments.{has_delta, slot_number}
use Rattle.rack.specs.Gathering.{points_into}

-- an entry that points into data fragment i is held by its slot
abbrev pub held_in : ℕ → ℕ → List (Option Filled) → Entry → Bool
held_in k i xs e = not (points_into k i e) || has_delta e (slot_number xs e.slot)
