-- Seal: what refuses it, its changes, and what it leaves.
use Rattle.std.specs.Prelude.{ℕ, ◌+◌, ◌-◌, ◌/◌, ◌%◌, if◌then◌else◌, Bool, true, not, ◌&&◌, List, [], ◌∷◌, ◌++◌, map, length, filter, Some, None, Option, nat_eq, nat_lt, slice_index_or, slice_set}
use Rattle.std.specs.List.{flat_map}
use Rattle.geometry.specs.Keys.{key_number}
use Rattle.geometry.specs.Sizes.{slots_in_fragment}
use Rattle.fragment.specs.declared.pair.Pair.{Pair}
use Rattle.fragment.specs.Pairs.{beats, pair_of}
use Rattle.fragment.specs.Slots.{Filled}
use Rattle.stripe.specs.Contents.{data_fragments}
use Rattle.stripe.specs.Rows.{fragment_on}
use Rattle.ordered.specs.Maps.{find, has, put}
use Rattle.ordered.specs.declared.fault.MapFault.TheVariants as map_faults
use Rattle.server.specs.Meaning.{holds, free}
use Rattle.row.specs.Rows.{at}
use Rattle.row.specs.Changes.{Step, StoreStep, DeleteStep, stepped_all}
use Rattle.rack.specs.Lists.{first_of, when, in_order}
use Rattle.rack.specs.Entries.{Entry, entry_block, block_in}
use Rattle.rack.specs.Faults.{Fault}
use Rattle.rack.specs.Worlds.{Table, Open, Idle, Service, World, Ticket, last_number, with_client, with_stripes, with_entries, size, used}
use Rattle.rack.specs.Answers.{Answer, Number, Outcome, gives, unless, within, server_full, table_full, spent, torn}
use Rattle.rack.specs.Opening.{if_cold, if_no_row, if_stale, open_of}
use Rattle.rack.specs.Fragments.{lacks}

-- ---- slots take entries

-- the entry of slot j of the stripe of key k
abbrev pub entry_for : ℕ → ℕ → Filled → Entry
entry_for k j x =
    record {
      block = block_in x;
      kind = x.delta.kind;
      pair = pair_of x.delta;
      key = k;
      index = j / slots_in_fragment;
      slot = j % slots_in_fragment;
    }

abbrev pub beats_entry : Option Entry → Pair → Bool
beats_entry None p = true
beats_entry (Some e) p = beats p e.pair

-- a slot takes the entry of its block if there is none, or if its pair is higher
abbrev pub takes : List Entry → Filled → Bool
takes es x = beats_entry (find entry_block es (block_in x)) (pair_of x.delta)

abbrev pub take_one : ℕ → ℕ → List Entry → Option Filled → List Entry
take_one k j es None = es
take_one k j es (Some x) = if takes es x then put entry_block es (entry_for k j x) else es

-- the entries after these slots of the stripe of key k, the first of which is slot j
abbrev pub taken : ℕ → ℕ → List Entry → List (Option Filled) → List Entry
taken k j es [] = es
taken k j es (x ∷ xs) = taken k (j + 1) (take_one k j es x) xs

abbrev pub passed_over : List Entry → Option Filled → ℕ
passed_over es None = 0
passed_over es (Some x) = if takes es x then 0 else 1

-- how many of these slots take no entry
abbrev pub not_taken : ℕ → ℕ → List Entry → List (Option Filled) → ℕ
not_taken k j es [] = 0
not_taken k j es (x ∷ xs) = passed_over es x + not_taken k (j + 1) (take_one k j es x) xs

-- the blocks of these slots that have no entry, each once
abbrev pub new_blocks : List Entry → List Filled → List ℕ
new_blocks es xs = in_order (filter (λ b. not (has entry_block es b)) (map block_in xs))

abbrev pub is_too_small : Table → List Entry → List Filled → Bool
is_too_small t es xs = nat_lt (t.room - length es) (length (new_blocks es xs))

-- ---- refusal

-- the key that a client's next stripe is sealed under
abbrev pub seal_key : World → ℕ → ℕ
seal_key w c = key_number c (slice_index_or w.service.stripes c 0)

abbrev pub is_filled : Open → Bool
is_filled o = not (nat_eq (length o.filled) 0)

-- how many places a server in use must have free: one is kept back for the cleaner, client 0
abbrev pub places_needed : ℕ → ℕ
places_needed c = if nat_eq c 0 then 1 else 2

abbrev pub full_on : World → ℕ → ℕ → Option Fault
full_on w c s = when (nat_lt (free (at w.row s)) (places_needed c)) (server_full s)

-- on one server: the new key must not be there, and each source must
abbrev pub torn_on : World → Ticket → ℕ → List (Option Fault)
torn_on w t s =
    let k = seal_key w t.client in
    when (is_filled (open_of w t) && holds (at w.row s) k) (torn s k map_faults.Held)
    ∷ map (λ k. lacks w k s) (open_of w t).sources

abbrev pub seal_refusal : World → Ticket → Option Fault
seal_refusal w t =
    let o = open_of w t in
    let filled = is_filled o in
    first_of
    (if_cold w
    ∷ if_no_row w
    ∷ if_stale w t
    ∷ (if filled then first_of (map (full_on w t.client) (used w)) else None)
    ∷ when (filled && is_too_small w.table w.table.entries o.filled) table_full
    ∷ when (filled && nat_lt last_number (slice_index_or w.service.stripes t.client 0)) (spent t.client)
    ∷ flat_map (torn_on w t) (used w))

-- ---- changes: the fragments are stored, then the sources go

abbrev pub seal_store : World → Ticket → ℕ → Step
seal_store w t s =
    let k = seal_key w t.client in
    StoreStep s k (fragment_on (size w) k (data_fragments (size w) k (open_of w t).filled) s)

abbrev pub source_deletes : World → ℕ → List Step
source_deletes w k = map (λ s. DeleteStep s k) (used w)

abbrev pub seal_steps : World → Ticket → List Step
seal_steps w t =
    let stores = map (seal_store w t) (used w) in
    (if is_filled (open_of w t) then stores else []) ++ flat_map (source_deletes w) (open_of w t).sources

-- ---- what it leaves

abbrev pub after_next : List ℕ → ℕ → List ℕ
after_next stripes c = slice_set stripes c (slice_index_or stripes c 0 + 1)

abbrev pub sealed_service : World → Ticket → Service
sealed_service w t =
    let stripes = if is_filled (open_of w t) then after_next w.service.stripes t.client else w.service.stripes in
    with_stripes (with_client w.service t.client Idle) stripes

abbrev pub sealed_entries : World → Ticket → List Entry
sealed_entries w t = taken (seal_key w t.client) 0 w.table.entries (map Some (open_of w t).filled)

abbrev pub seal_after : World → Ticket → World
seal_after w t =
    record {
      row = stepped_all (seal_steps w t) w.row;
      service = sealed_service w t;
      table = with_entries w.table (sealed_entries w t);
    }

abbrev pub seal_answer : World → Ticket → Answer
seal_answer w t = Number (not_taken (seal_key w t.client) 0 w.table.entries (map Some (open_of w t).filled))

abbrev pub seal_outcome : World → Ticket → ℕ → Outcome
seal_outcome w t budget =
    let whole = gives (seal_answer w t) (seal_after w t) in
    unless (seal_refusal w t) w (within budget (seal_steps w t) w whole)
