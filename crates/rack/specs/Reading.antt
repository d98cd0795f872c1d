-- Read: the newest of what is open and what is sealed.
use Rattle.std.specs.Prelude.{ℕ, ◌-◌, if◌then◌else◌, Bool, false, true, not, ◌&&◌, ◌||◌, List, [], ◌∷◌, drop, filter, fold, Some, None, Option, nat_eq, nat_lt}
use Rattle.std.specs.List.{flat_map}
use Rattle.geometry.specs.Placement.{data_server}
use Rattle.geometry.specs.Sizes.{slots_in_fragment}
use Rattle.fragment.specs.declared.delta.Kind.{Kind}
use Rattle.fragment.specs.declared.delta.Kind.TheVariants as kinds
use Rattle.fragment.specs.Slots.{Filled}
use Rattle.ordered.specs.Maps.{find}
use Rattle.rack.specs.Lists.{first_of, when}
use Rattle.rack.specs.Entries.{Entry, entry_block, block_in, block_number}
use Rattle.rack.specs.Faults.{Fault}
use Rattle.rack.specs.Worlds.{World, filled_of, size}
use Rattle.rack.specs.Answers.{Answer, Done, Found, Outcome, gives, unless, nothing_there}
use Rattle.rack.specs.Opening.{if_cold, if_no_row}
use Rattle.rack.specs.Fragments.{read_for, torn_among, slots_read, slots_or_none, slot_number, bad_in}

-- what is newest of a block: nothing, an open slot, or an entry of the table
pub data Finding : Type 0 where
  Nothing : Finding
  InOpen : Filled → Finding
  InTable : Entry → Finding

abbrev pub is_trim : Kind → Bool
is_trim kinds.Write = false
is_trim kinds.Trim = true

-- the open slots of a block, of clients 1 to 7: what the cleaner holds are copies of sealed slots
abbrev pub open_slots : World → ℕ → List Filled
open_slots w b = filter (λ x. nat_eq (block_in x) b) (flat_map filled_of (drop 1 w.service.clients))

abbrev pub newer_slot : Option Filled → Filled → Option Filled
newer_slot None x = Some x
newer_slot (Some y) x = Some (if nat_lt y.delta.version x.delta.version then x else y)

-- an entry wins a tie
abbrev pub newer_of : Option Filled → Option Entry → Finding
newer_of None None = Nothing
newer_of (Some x) None = InOpen x
newer_of None (Some e) = InTable e
newer_of (Some x) (Some e) = if nat_lt e.pair.version x.delta.version then InOpen x else InTable e

abbrev pub finding : World → ℕ → Finding
finding w b = newer_of (fold newer_slot None (open_slots w b)) (find entry_block w.table.entries b)

-- an entry's place is a slot of this row
abbrev pub is_placed : World → Entry → Bool
is_placed w e = nat_lt e.index (size w - 1) && nat_lt e.slot slots_in_fragment

abbrev pub entry_refusal : World → Entry → Option Fault
entry_refusal w e =
    let gone = torn_among w e.key (read_for w (data_server (size w) e.key e.index)) in
    let bad = bad_in w e.key e.index (e ∷ []) in
    first_of (when (is_trim e.kind || not (is_placed w e)) nothing_there ∷ gone ∷ bad ∷ [])

abbrev pub finding_refusal : World → Finding → Option Fault
finding_refusal w Nothing = Some nothing_there
finding_refusal w (InOpen x) = when (is_trim x.delta.kind) nothing_there
finding_refusal w (InTable e) = entry_refusal w e

abbrev pub read_refusal : World → ℕ → Option Fault
read_refusal w b = first_of (if_cold w ∷ if_no_row w ∷ finding_refusal w (finding w b) ∷ [])

abbrev pub bytes_in : Option Filled → List ℕ
bytes_in None = []
bytes_in (Some x) = x.bytes

abbrev pub finding_answer : World → Finding → Answer
finding_answer w Nothing = Done
finding_answer w (InOpen x) = Found x.delta.version x.bytes
finding_answer w (InTable e) =
    Found e.pair.version (bytes_in (slot_number (slots_or_none (slots_read w e.key e.index)) e.slot))

abbrev pub read_outcome : World → ℕ → ℕ → Outcome
read_outcome w file block =
    let b = block_number file block in
    let whole = gives (finding_answer w (finding w b)) w in
    unless (read_refusal w b) w whole
