-- The slots that a stripe being filled holds, read from its bytes.
use Rattle.std.specs.Prelude.{◌≡◌, ℕ, ◌/◌, ◌%◌, List, [], map, Some, None, Ok, Err, Option, Result, slice_index_or, slice_set}
use Rattle.std.specs.List.{range_with_len}
use Rattle.geometry.specs.Sizes.{slots_in_fragment}
use Rattle.fragment.specs.declared.cause.Cause.{Cause}
use Rattle.fragment.specs.declared.delta.Kind.TheVariants.{Trim}
use Rattle.fragment.specs.declared.layout.Layout.TheVariants.{Two}
use Rattle.std.proofs.Props.{props}
use Rattle.fragment.specs.Slots.{Filled, Fair, read_slot}
use Rattle.fragment.specs.Fragments.{slot_in, put_slot}
use Rattle.stripe.specs.Contents.{open_fragments}

-- stands for a slot that is not there
abbrev pub no_slot : Filled
no_slot = record { delta = record { kind = Trim; file = 0; block = 0; version = 0; moves = 0 }; bytes = [] }

abbrev pub slot_read : Result (Option Filled) Cause → Filled
slot_read (Ok (Some x)) = x
slot_read (Ok None) = no_slot
slot_read (Err c) = no_slot

-- the bytes of slot j of a stripe
abbrev pub bytes_at : List (List ℕ) → ℕ → List ℕ
bytes_at fragments j = slot_in (slice_index_or fragments (j / slots_in_fragment) []) (j % slots_in_fragment)

-- the first so many slots
abbrev pub slots_from : List (List ℕ) → ℕ → List Filled
slots_from fragments filled = map (λ j. slot_read (read_slot Two (bytes_at fragments j))) (range_with_len 0 filled)

-- there is one proof at most that a slot is fair
pub Fair-prop : (x : Filled) → IsProp (Fair x)
Fair-prop x = Prim.hlevel props

-- the fragments are those of the slots that they hold, and nothing else
abbrev pub Formed : List (List ℕ) → ℕ → Type 0
Formed fragments filled = fragments ≡ open_fragments (slots_from fragments filled)

-- the fragments with slot m of the stripe written over, and no other byte changed
abbrev pub with_slot : List (List ℕ) → ℕ → Filled → List (List ℕ)
with_slot fragments m x =
    slice_set fragments (m / slots_in_fragment)
    (put_slot (m % slots_in_fragment) x (slice_index_or fragments (m / slots_in_fragment) []))
