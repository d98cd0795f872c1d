-- A data fragment: a head, then three slots.
use Rattle.std.specs.Prelude.{ℕ, ◌+◌, List, [], ◌∷◌, ◌++◌, map, take, drop, Some, Ok, Err, Option, Result}
use Rattle.std.specs.List.{range_with_len, flat_map}
use Rattle.geometry.specs.Sizes.{head_length, slot_length, slots_in_fragment, slot_place}
use Rattle.fragment.specs.declared.cause.Cause.{Cause}
use Rattle.fragment.specs.declared.layout.Layout.{Layout}
use Rattle.fragment.specs.declared.delta.Delta.{Delta}
use Rattle.geometry.specs.Bytes.{part}
use Rattle.fragment.specs.Slots.{Filled, slot_bytes, read_slot, delta_of}
use Rattle.fragment.specs.Heads.{head_bytes, read_head}

-- data fragment i of key k on a row of n with these slots, as it is written
abbrev pub fragment_bytes : ℕ → ℕ → ℕ → List (Option Filled) → List ℕ
fragment_bytes n k i slots = head_bytes n k i ++ flat_map slot_bytes slots

-- the bytes of slot j
abbrev pub slot_in : List ℕ → ℕ → List ℕ
slot_in bs j = part (slot_place j) slot_length bs

-- all slots, or the cause in the first that has one
abbrev pub and_then : Option Filled → Result (List (Option Filled)) Cause → Result (List (Option Filled)) Cause
and_then s (Ok ss) = Ok (s ∷ ss)
and_then s (Err c) = Err c

abbrev pub all_read : List (Result (Option Filled) Cause) → Result (List (Option Filled)) Cause
all_read [] = Ok []
all_read (Ok s ∷ rs) = and_then s (all_read rs)
all_read (Err c ∷ rs) = Err c

abbrev pub slots_under : List ℕ → Result Layout Cause → Result (List (Option Filled)) Cause
slots_under bs (Err c) = Err c
slots_under bs (Ok l) = all_read (map (λ j. read_slot l (slot_in bs j)) (range_with_len 0 slots_in_fragment))

-- the slots of data fragment i of key k on a row of n, or the first cause why these bytes are not it
abbrev pub read_fragment : ℕ → ℕ → ℕ → List ℕ → Result (List (Option Filled)) Cause
read_fragment n k i bs = slots_under bs (read_head n k i (take head_length bs))

-- what code answers: the deltas
abbrev pub deltas_answer : Result (List (Option Filled)) Cause → Result (List (Option Delta)) Cause
deltas_answer (Ok ss) = Ok (map delta_of ss)
deltas_answer (Err c) = Err c

-- slot j written over
abbrev pub put_slot : ℕ → Filled → List ℕ → List ℕ
put_slot j x bs = take (slot_place j) bs ++ (slot_bytes (Some x) ++ drop (slot_place j + slot_length) bs)
