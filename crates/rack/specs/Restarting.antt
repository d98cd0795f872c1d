-- Restart: which stripes count, what is read of them, the changes that make the row whole, and what it leaves.
use Rattle.std.specs.Prelude.{ℕ, ◌+◌, ◌-◌, max, if◌then◌else◌, Bool, true, false, not, ◌||◌, List, [], ◌∷◌, map, length, replicate, filter, fold, count_by, Some, None, Option, nat_eq, nat_lt, nat_le}
use Rattle.std.specs.List.{range_with_len, flat_map, filter_map}
use Rattle.std.specs.Prelude.{Result}
use Rattle.geometry.specs.Keys.{client_of, stripe_of}
use Rattle.geometry.specs.Rows.{is_row}
use Rattle.geometry.specs.Placement.{data_server, part_on}
use Rattle.geometry.specs.declared.part.Part.{Part}
use Rattle.geometry.specs.declared.part.Part.TheVariants as parts
use Rattle.fragment.specs.declared.cause.Cause.{Cause}
use Rattle.fragment.specs.Slots.{Filled}
use Rattle.fragment.specs.Fragments.{read_fragment}
use Rattle.server.specs.Meaning.{Meaning, piece_key, holds, free}
use Rattle.row.specs.Rows.{at}
use Rattle.row.specs.Changes.{Step, StoreStep, DeleteStep, stepped_all}
use Rattle.rack.specs.Lists.{first_of, when, is_among, in_order}
use Rattle.rack.specs.Entries.{Entry}
use Rattle.rack.specs.Faults.{Fault}
use Rattle.rack.specs.Worlds.{Table, Idle, Service, World, clients_count, with_entries, used_of, cooled}
use Rattle.rack.specs.Answers.{Number, Outcome, gives, unless, within, bad_server, server_full, table_full}
use Rattle.rack.specs.Sealing.{taken, is_too_small}
use Rattle.rack.specs.Fragments.{bytes_on, together, slots_or_none, cause_in, bad_with}

-- In what follows `us` are the servers in use.

-- ---- which stripes count

-- every key that a server in use holds, in order
abbrev pub keys_held : List Meaning → List ℕ → List ℕ
keys_held row us = in_order (flat_map (λ u. map piece_key (at row u).held) us)

abbrev pub holders : List Meaning → List ℕ → ℕ → List ℕ
holders row us k = filter (λ u. holds (at row u) k) us

-- a stripe counts if one of its fragments at most is missing on the servers in use
abbrev pub counts : List Meaning → List ℕ → ℕ → Bool
counts row us k = nat_le (length row - 1) (length (holders row us k))

abbrev pub counting_keys : List Meaning → List ℕ → List ℕ
counting_keys row us = filter (counts row us) (keys_held row us)

-- ---- what is read of a counting stripe

-- the fragment on server s where these servers hold theirs: its own or, of any other, put together from them
abbrev pub fragment_among : List Meaning → List ℕ → ℕ → ℕ → List ℕ
fragment_among row hs k s =
    let apart = together row hs k in
    let own = bytes_on row k s in
    if is_among hs s then own else apart

-- its fragment on server s, put together from the others where s is not in use or lacks it
abbrev pub counting_fragment : List Meaning → List ℕ → ℕ → ℕ → List ℕ
counting_fragment row us k s = fragment_among row (holders row us k) k s

abbrev pub counting_slots : List Meaning → List ℕ → ℕ → ℕ → Result (List (Option Filled)) Cause
counting_slots row us k i =
    read_fragment (length row) k i (counting_fragment row us k (data_server (length row) k i))

abbrev pub bad_part : List Meaning → List ℕ → ℕ → ℕ → Option Part → Option Fault
bad_part row us k s None = None
bad_part row us k s (Some parts.Parity) = None
bad_part row us k s (Some (parts.Data i)) = bad_with s k (cause_in (counting_slots row us k i) [])

-- among bad fragments, the one on the smallest server
abbrev pub stripe_bad : List Meaning → List ℕ → ℕ → Option Fault
stripe_bad row us k =
    first_of (map (λ s. bad_part row us k s (part_on (length row) k s)) (range_with_len 0 (length row)))

-- all slots of a counting stripe, in order
abbrev pub stripe_slots : List Meaning → List ℕ → ℕ → List (Option Filled)
stripe_slots row us k =
    flat_map (λ i. slots_or_none (counting_slots row us k i)) (range_with_len 0 (length row - 1))

abbrev pub filled_in : List (Option Filled) → List Filled
filled_in xs = filter_map (λ x. x) xs

-- the entries after the slots of these stripes
abbrev pub scanned : List Meaning → List ℕ → List Entry → List ℕ → List Entry
scanned row us es [] = es
scanned row us es (k ∷ ks) = scanned row us (taken k 0 es (stripe_slots row us k)) ks

-- ---- refusal

-- the first fault, stripe by stripe: a bad fragment, or too small a table
abbrev pub scan_refusal : Table → List Meaning → List ℕ → List Entry → List ℕ → Option Fault
scan_refusal t row us es [] = None
scan_refusal t row us es (k ∷ ks) =
    first_of
    (stripe_bad row us k
    ∷ when (is_too_small t es (filled_in (stripe_slots row us k))) table_full
    ∷ scan_refusal t row us (taken k 0 es (stripe_slots row us k)) ks
    ∷ [])

-- how many counting stripes a server lacks
abbrev pub lacking : List Meaning → List ℕ → ℕ → ℕ
lacking row us s = count_by (λ k. not (holds (at row s) k)) (counting_keys row us)

abbrev pub full_on : List Meaning → List ℕ → ℕ → Option Fault
full_on row us s = when (nat_lt (free (at row s)) (lacking row us s)) (server_full s)

abbrev pub names_none : ℕ → Option ℕ → Bool
names_none n None = false
names_none n (Some s) = nat_le n s

abbrev pub restart_refusal : World → Option ℕ → Option Fault
restart_refusal w out =
    let row = w.row in
    let us = used_of row out in
    let full = first_of (map (full_on row us) us) in
    let scan = scan_refusal w.table row us [] (counting_keys row us) in
    first_of (when (names_none (length row) out || not (is_row (length row))) bad_server ∷ full ∷ scan ∷ [])

-- ---- changes, in the order of the keys

abbrev pub restart_steps_at : List Meaning → List ℕ → ℕ → List Step
restart_steps_at row us k =
    let hs = holders row us k in
    let stores = map (λ s. StoreStep s k (together row hs k)) (filter (λ s. not (is_among hs s)) us) in
    let deletes = map (λ s. DeleteStep s k) hs in
    if counts row us k then stores else deletes

abbrev pub restart_steps : World → Option ℕ → List Step
restart_steps w out =
    let us = used_of w.row out in
    flat_map (restart_steps_at w.row us) (keys_held w.row us)

-- ---- what it leaves

abbrev pub highest_version : List Filled → ℕ
highest_version xs = fold (λ v x. max v x.delta.version) 0 xs

-- a client's next stripe: one past its highest among these keys, or 0
abbrev pub next_stripe : List ℕ → ℕ → ℕ
next_stripe ks c = fold (λ s k. if nat_eq (client_of k) c then max s (stripe_of k + 1) else s) 0 ks

abbrev pub restarted_service : World → Option ℕ → Service
restarted_service w out =
    let us = used_of w.row out in
    let ks = counting_keys w.row us in
    record {
      warm = true;
      out = out;
      clients = replicate clients_count Idle;
      stripes = map (next_stripe ks) (range_with_len 0 clients_count);
      version = highest_version (flat_map (λ k. filled_in (stripe_slots w.row us k)) ks) + 1;
      begins = w.service.begins;
    }

abbrev pub restart_after : World → Option ℕ → World
restart_after w out =
    let us = used_of w.row out in
    record {
      row = stepped_all (restart_steps w out) w.row;
      service = restarted_service w out;
      table = with_entries w.table (scanned w.row us [] (counting_keys w.row us));
    }

-- a refused restart leaves an empty table and a cold service, and all else as it was
abbrev pub left_cold : World → World
left_cold w = record w { service = cooled w.service; table = with_entries w.table [] }

abbrev pub restart_outcome : World → Option ℕ → ℕ → Outcome
restart_outcome w out budget =
    let whole = gives (Number (length (counting_keys w.row (used_of w.row out)))) (restart_after w out) in
    unless (restart_refusal w out) (left_cold w) (within budget (restart_steps w out) w whole)
