-- The readings in stripes, and the newest among them.
use Rattle.std.specs.Prelude.{◌≡◌, ℕ, ◌-◌, if◌then◌else◌, List, [], ◌∷◌, Some, None, Ok, Err, Option, Result}
use Rattle.std.specs.List.{range_with_len, flat_map}
use Rattle.std.specs.Ordering.{eq_by_cmp}
use Rattle.geometry.specs.Keys.{key_number}
use Rattle.geometry.specs.Placement.{data_server}
use Rattle.fragment.specs.declared.cause.Cause.{Cause}
use Rattle.fragment.specs.declared.delta.Delta.{Delta}
use Rattle.fragment.specs.Slots.{Filled}
use Rattle.fragment.specs.Fragments.{read_fragment}
use Rattle.server.specs.Meaning.{Meaning}
use Rattle.workshop.specs.declared.newest.Newest.{Newest}
use Rattle.workshop.specs.declared.newest.Noted.{Noted}
use Rattle.workshop.specs.declared.tyre.TyreId.{TyreId}
use Rattle.workshop.specs.Pressures.{kpa_in}
use Rattle.workshop.specs.Tyres.{by_tyre}
use Rattle.workshop.specs.Readings.{noted_for, newer}
use Rattle.row_packing.specs.Fetches.{fragment_in}

-- a tyre, and a reading of it
abbrev pub Entry : Type 0
Entry = TyreId × Noted

-- the file is the truck, the block the tyre
abbrev pub entry_of : Delta → List ℕ → Entry
entry_of d block = (record { truck = d.file; tyre = d.block }, record { version = d.version; kpa = kpa_in block })

-- the reading in a slot with this delta and these block bytes
abbrev pub entry_in : Option Delta → List ℕ → List Entry
entry_in None block = []
entry_in (Some d) block = entry_of d block ∷ []

abbrev pub slot_entries : Option Filled → List Entry
slot_entries None = []
slot_entries (Some x) = entry_of x.delta x.bytes ∷ []

-- the readings of all filled slots, in order
abbrev pub entries_in : Result (List (Option Filled)) Cause → List Entry
entries_in (Ok slots) = flat_map slot_entries slots
entries_in (Err c) = []

-- those of data fragment i of key k, of a row of n with a server missing
abbrev pub fragment_readings : List Meaning → ℕ → Option ℕ → ℕ → ℕ → List Entry
fragment_readings row n missing k i = entries_in (read_fragment n k i (fragment_in row n missing k (data_server n k i)))

-- those of all data fragments of key k
abbrev pub stripe_readings : List Meaning → ℕ → Option ℕ → ℕ → List Entry
stripe_readings row n missing k = flat_map (fragment_readings row n missing k) (range_with_len 0 (n - 1))

-- those of the client's first stripes
abbrev pub readings_on : List Meaning → ℕ → Option ℕ → ℕ → ℕ → List Entry
readings_on row n missing client count = flat_map (λ j. stripe_readings row n missing (key_number client j)) (range_with_len 0 count)

-- what is noted of a tyre after these readings
abbrev pub newest_of : Option Noted → List Entry → TyreId → Option Noted
newest_of old [] q = old
newest_of old (e ∷ es) q = newest_of (if eq_by_cmp by_tyre q e.0 then Some (newer old e.1) else old) es q

abbrev pub newest_among : List Entry → TyreId → Option Noted
newest_among es q = newest_of None es q

-- n has what m has and these readings after it
abbrev pub Appended : Newest → Newest → List Entry → Type 0
Appended m n es = (q : TyreId) → noted_for n q ≡ newest_of (noted_for m q) es q
