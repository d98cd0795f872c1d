-- What a stripe holds: its filled slots in order, the rest of its slots empty. They fill the data fragments one after another.
use Rattle.std.specs.Prelude.{ℕ, zero, suc, ◌+◌, ◌-◌, ◌*◌, List, [], ◌∷◌, ◌++◌, map, length, replicate, Some, None, Option}
use Rattle.std.specs.List.{range_with_len, flat_map}
use Rattle.geometry.specs.Sizes.{head_length, slots_in_fragment, most_slots}
use Rattle.fragment.specs.declared.delta.Delta.{Delta}
use Rattle.fragment.specs.Slots.{Filled, slot_bytes}
use Rattle.fragment.specs.Fragments.{fragment_bytes}

-- slot j of the stripe
abbrev pub slot_at : List Filled → ℕ → Option Filled
slot_at [] j = None
slot_at (x ∷ xs) zero = Some x
slot_at (x ∷ xs) (suc j) = slot_at xs j

-- the deltas of the slots of a stripe on the longest row, none for an empty slot
abbrev pub deltas_of : List Filled → List (Option Delta)
deltas_of xs = map (λ x. Some x.delta) xs ++ replicate (most_slots - length xs) None

-- the slots of data fragment i
abbrev pub slots_of : List Filled → ℕ → List (Option Filled)
slots_of xs i = map (λ j. slot_at xs (slots_in_fragment * i + j)) (range_with_len 0 slots_in_fragment)

-- data fragment i of key k on a row of n
abbrev pub data_bytes : ℕ → ℕ → List Filled → ℕ → List ℕ
data_bytes n k xs i = fragment_bytes n k i (slots_of xs i)

abbrev pub data_fragments : ℕ → ℕ → List Filled → List (List ℕ)
data_fragments n k xs = map (data_bytes n k xs) (range_with_len 0 (n - 1))

-- data fragment i before the stripe has a key: its head is still zero
abbrev pub open_bytes : List Filled → ℕ → List ℕ
open_bytes xs i = replicate head_length 0 ++ flat_map slot_bytes (slots_of xs i)

-- the data fragments of the longest row; shut, since it is long when it computes
unfoldable pub open_fragments : List Filled → List (List ℕ)
open_fragments xs = map (open_bytes xs) (range_with_len 0 7)
