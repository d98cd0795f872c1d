-- Gather: the live slots of a sealed stripe are copied into the cleaner's open stripe.
use Rattle.std.specs.Prelude.{ℕ, ◌+◌, ◌-◌, ◌^◌, if◌then◌else◌, Bool, not, ◌&&◌, ◌||◌, List, [], ◌∷◌, ◌++◌, map, length, filter, Some, None, Option, nat_eq, nat_lt, nat_le}
use Rattle.std.specs.List.{range_with_len, flat_map, list_any}
use Rattle.geometry.specs.Placement.{data_server, part_on}
use Rattle.geometry.specs.declared.part.Part.{Part}
use Rattle.geometry.specs.declared.part.Part.TheVariants as parts
use Rattle.geometry.specs.Sizes.{slot_count, slots_in_fragment}
use Rattle.fragment.specs.Slots.{Filled}
use Rattle.rack.specs.Lists.{first_of, when, is_among, in_order}
use Rattle.rack.specs.Entries.{Entry}
use Rattle.rack.specs.Faults.{Fault}
use Rattle.rack.specs.Worlds.{Open, Held, World, Ticket, size, is_sealed}
use Rattle.rack.specs.Answers.{Number, Outcome, gives, unless, bad_client, no_stripe, stripe_full, spent}
use Rattle.rack.specs.Opening.{if_cold, if_no_row, if_stale, open_of, with_state}
use Rattle.rack.specs.Fragments.{read_for, torn_among, slots_read, slots_or_none, slot_number, bad_in}

-- ---- live slots: those that an entry points at

abbrev pub points_at : ℕ → ℕ → ℕ → Entry → Bool
points_at k i j e = nat_eq e.key k && nat_eq e.index i && nat_eq e.slot j

abbrev pub is_live : List Entry → ℕ → ℕ → ℕ → Bool
is_live es k i j = list_any (points_at k i j) es

abbrev pub live_slots : List Entry → ℕ → ℕ → List ℕ
live_slots es k i = filter (is_live es k i) (range_with_len 0 slots_in_fragment)

abbrev pub has_live : List Entry → ℕ → ℕ → Bool
has_live es k i = not (nat_eq (length (live_slots es k i)) 0)

-- the data fragments with live slots, on a row of n
abbrev pub live_fragments : ℕ → List Entry → ℕ → List ℕ
live_fragments n es k = filter (has_live es k) (range_with_len 0 (n - 1))

abbrev pub live_count : ℕ → List Entry → ℕ → ℕ
live_count n es k = length (flat_map (live_slots es k) (live_fragments n es k))

abbrev pub points_into : ℕ → ℕ → Entry → Bool
points_into k i e = nat_eq e.key k && nat_eq e.index i && nat_lt e.slot slots_in_fragment

-- the entries that point into data fragment i
abbrev pub pointing_into : List Entry → ℕ → ℕ → List Entry
pointing_into es k i = filter (points_into k i) es

abbrev pub most_moves : ℕ
most_moves = 2 ^ 16 - 1

-- an entry that points into the stripe on a row of n has moved as often as can be told
abbrev pub is_worn_at : ℕ → ℕ → Entry → Bool
is_worn_at n k e = nat_lt e.index (n - 1) && points_into k e.index e && nat_eq e.pair.moves most_moves

-- a live slot cannot be moved once more
abbrev pub is_worn : ℕ → List Entry → ℕ → Bool
is_worn n es k = list_any (is_worn_at n k) es

-- ---- refusal

abbrev pub most_sources : ℕ
most_sources = 8

-- the servers that must be read, ascending
abbrev pub gather_reads : World → ℕ → List ℕ
gather_reads w k =
    in_order (flat_map (λ i. read_for w (data_server (size w) k i)) (live_fragments (size w) w.table.entries k))

abbrev pub bad_part : World → ℕ → Option Part → Option Fault
bad_part w k None = None
bad_part w k (Some parts.Parity) = None
bad_part w k (Some (parts.Data i)) =
    let bad = bad_in w k i (pointing_into w.table.entries k i) in
    if has_live w.table.entries k i then bad else None

-- among bad fragments, the one on the smallest server
abbrev pub gather_bad : World → ℕ → Option Fault
gather_bad w k = first_of (map (λ s. bad_part w k (part_on (size w) k s)) (range_with_len 0 (size w)))

abbrev pub gather_refusal : World → Ticket → ℕ → Option Fault
gather_refusal w t k =
    let o = open_of w t in
    let es = w.table.entries in
    let gone = torn_among w k (gather_reads w k) in
    let bad = gather_bad w k in
    first_of
    (if_cold w
    ∷ if_no_row w
    ∷ when (not (nat_eq t.client 0)) (bad_client t.client)
    ∷ if_stale w t
    ∷ when (not (is_sealed w k) || is_among o.sources k) (no_stripe k)
    ∷ when (nat_lt (slot_count (size w)) (length o.filled + live_count (size w) es k) || nat_le most_sources (length o.sources)) (stripe_full 0)
    ∷ when (is_worn (size w) es k) (spent 0)
    ∷ gone
    ∷ bad
    ∷ [])

-- ---- copies: one move more

abbrev pub moved : Option Filled → List Filled
moved None = []
moved (Some x) =
    record x { delta = record x.delta { moves = x.delta.moves + 1 } } ∷ []

abbrev pub copies_from : World → ℕ → ℕ → List Filled
copies_from w k i =
    let xs = slots_or_none (slots_read w k i) in
    flat_map (λ j. moved (slot_number xs j)) (live_slots w.table.entries k i)

abbrev pub copies : World → ℕ → List Filled
copies w k = flat_map (copies_from w k) (live_fragments (size w) w.table.entries k)

abbrev pub gathered : World → Open → ℕ → Open
gathered w o k = record { begun = o.begun; filled = o.filled ++ copies w k; sources = o.sources ++ k ∷ [] }

abbrev pub gather_outcome : World → Ticket → ℕ → Outcome
gather_outcome w t k =
    let whole = gives (Number (length (copies w k))) (with_state w 0 (Held (gathered w (open_of w t) k))) in
    unless (gather_refusal w t k) w whole
