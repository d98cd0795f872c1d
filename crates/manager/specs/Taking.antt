-- Slots as code has them, by their deltas alone, and taking them into a table that can be full.
use Rattle.std.specs.Prelude.{ℕ, ◌+◌, Bool, true, false, if◌then◌else◌, ◌||◌, List, [], ◌∷◌, map, length, is_ok, Some, None, Ok, Err, Option, Result, nat_lt}
use Rattle.fragment.specs.declared.delta.Delta.{Delta}
use Rattle.fragment.specs.Slots.{Filled}
use Rattle.ordered.specs.Maps.{has}
use Rattle.ordered.specs.declared.fault.MapFault.{MapFault}
use Rattle.ordered.specs.declared.fault.MapFault.TheVariants.{Full}
use Rattle.rack.specs.Entries.{Entry, entry_block, block_in}
use Rattle.rack.specs.Lists.{is_among}
use Rattle.rack.specs.Restarting.{filled_in}
use Rattle.rack.specs.Sealing.{takes, take_one, taken, not_taken, is_too_small}
use Rattle.rack.specs.Worlds.{Table}

-- a filled slot of this delta: no entry depends on its bytes
abbrev pub with_delta : Delta → Filled
with_delta d = record { delta = d; bytes = [] }

abbrev pub slot_with : Option Delta → Option Filled
slot_with None = None
slot_with (Some d) = Some (with_delta d)

abbrev pub slots_with : List (Option Delta) → List (Option Filled)
slots_with ds = map slot_with ds

-- the blocks of the filled slots
abbrev pub blocks_in : List (Option Delta) → List ℕ
blocks_in ds = map block_in (filled_in (slots_with ds))

-- how many of these blocks have no entry; each is counted at its last place
abbrev pub new_count : List Entry → List ℕ → ℕ
new_count es [] = 0
new_count es (b ∷ bs) = (if has entry_block es b || is_among bs b then 0 else 1) + new_count es bs

-- whether a slot takes an entry, where there is room for so many; a new block in a full table is refused
abbrev pub take_answer : ℕ → List Entry → Filled → Result Bool MapFault
take_answer places es x =
    let fits = has entry_block es (block_in x) || nat_lt (length es) places in
    if takes es x then (if fits then Ok true else Err Full) else Ok false

abbrev pub take_after : ℕ → ℕ → ℕ → List Entry → Filled → List Entry
take_after places k j es x = if is_ok (take_answer places es x) then take_one k j es (Some x) else es

-- taking all slots of a stripe, or refusing them
abbrev pub take_all_answer : Table → ℕ → List (Option Filled) → Result ℕ MapFault
take_all_answer t k xs = if is_too_small t t.entries (filled_in xs) then Err Full else Ok (not_taken k 0 t.entries xs)

abbrev pub take_all_after : Table → ℕ → List (Option Filled) → List Entry
take_all_after t k xs = if is_too_small t t.entries (filled_in xs) then t.entries else taken k 0 t.entries xs
