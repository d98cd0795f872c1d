-- The bytes of a block in an open stripe, or in a fragment of a sealed one.
use Rattle.std.specs.Prelude.{◌≡◌, ℕ, ◌/◌, ◌%◌, ◌≤◌, if◌then◌else◌, List, [], length, drop, Some, None, Ok, Option, nat_lt, slice_index_or}
use Rattle.std.specs.List.{AllByRecursion}
use Rattle.geometry.specs.Sizes.{delta_length, slots_in_fragment, most_slots}
use Rattle.fragment.specs.Slots.{Filled, Fair}
use Rattle.fragment.specs.Fragments.{slot_in, read_fragment}
use Rattle.stripe.specs.Contents.{slot_at, open_fragments}
use Rattle.rack.specs.Fragments.{slot_number}
use Rattle.open_stripe.specs.declared.pick.BlockPlace.{BlockPlace}
use Rattle.open_stripe.specs.declared.pick.BlockPlace.TheVariants.{Open, Sealed}

-- the bytes of the block in slot j of a fragment
abbrev pub block_bytes : List ℕ → ℕ → List ℕ
block_bytes fragment j = drop delta_length (slot_in fragment j)

abbrev pub picked : BlockPlace → List (List ℕ) → List ℕ → Option (List ℕ)
picked (Open m) stripe fragment =
    let bytes = block_bytes (slice_index_or stripe (m / slots_in_fragment) []) (m % slots_in_fragment) in
    if nat_lt (m / slots_in_fragment) (length stripe) then Some bytes else None
picked (Sealed j) stripe fragment = if nat_lt j slots_in_fragment then Some (block_bytes fragment j) else None

-- of an open stripe with these slots, what is picked is the bytes of the filled slot
abbrev pub OpenBlocks : Type 0
OpenBlocks =
    (xs : List Filled) (m : ℕ) (x : Filled) (fragment : List ℕ)
    → AllByRecursion Fair xs → length xs ≤ most_slots → slot_at xs m ≡ Some x
    → picked (Open m) (open_fragments xs) fragment ≡ Some x.bytes

-- of a fragment that reads back, what is picked is the bytes of the filled slot
abbrev pub SealedBlocks : Type 0
SealedBlocks =
    (n k i j : ℕ) (stripe : List (List ℕ)) (fragment : List ℕ) (xs : List (Option Filled)) (x : Filled)
    → read_fragment n k i fragment ≡ Ok xs → slot_number xs j ≡ Some x
    → picked (Sealed j) stripe fragment ≡ Some x.bytes
