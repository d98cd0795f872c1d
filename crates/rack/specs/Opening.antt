-- Begin, park, pick up, write, trim and withdraw: the calls on a client's open stripe.
use Rattle.std.specs.Prelude.{ℕ, ◌+◌, if◌then◌else◌, Bool, true, false, not, List, [], ◌∷◌, ◌++◌, length, is_some, Some, None, Option, unwrap_or, nat_eq, nat_lt, nat_le}
use Rattle.geometry.specs.Rows.{is_row}
use Rattle.geometry.specs.Sizes.{slot_count}
use Rattle.fragment.specs.declared.delta.Kind.{Kind}
use Rattle.fragment.specs.Slots.{Filled, filled_with}
use Rattle.rack.specs.Lists.{first_of, when}
use Rattle.rack.specs.Faults.{Fault}
use Rattle.rack.specs.Worlds.{Open, Client, Idle, Held, Parked, World, Ticket, clients_count, last_number, client_at, with_client, with_service, with_version, with_begins, size}
use Rattle.rack.specs.Answers.{Outcome, gives, unless, Done, Begun, Number, cold_fault, bad_server, bad_client, busy, stale, stripe_full, spent}

abbrev pub no_open : Open
no_open = record { begun = 0; filled = []; sources = [] }

abbrev pub is_idle : Client → Bool
is_idle Idle = true
is_idle _ = false

-- the open stripe that a client holds under this begin number
abbrev pub held_as : ℕ → Client → Option Open
held_as begun (Held o) = if nat_eq o.begun begun then Some o else None
held_as begun _ = None

abbrev pub parked_in : Client → Option Open
parked_in (Parked o) = Some o
parked_in _ = None

-- the open stripe of a ticket
abbrev pub held_by : World → Ticket → Option Open
held_by w t = held_as t.begun (client_at w t.client)

abbrev pub open_of : World → Ticket → Open
open_of w t = unwrap_or (held_by w t) no_open

abbrev pub parked_of : World → ℕ → Open
parked_of w c = unwrap_or (parked_in (client_at w c)) no_open

abbrev pub if_cold : World → Option Fault
if_cold w = when (not w.service.warm) cold_fault

-- a row that is not of 3 to 8 servers is no rack's: calls that ask how long it is refuse it
abbrev pub if_no_row : World → Option Fault
if_no_row w = when (not (is_row (size w))) bad_server

abbrev pub if_stale : World → Ticket → Option Fault
if_stale w t = when (not (is_some (held_by w t))) (stale t.client)

-- the world with one client in another state
abbrev pub with_state : World → ℕ → Client → World
with_state w c client = with_service w (with_client w.service c client)

-- ---- begin

abbrev pub begin_refusal : World → ℕ → Option Fault
begin_refusal w c =
    first_of
    (if_cold w
    ∷ when (nat_le clients_count c) (bad_client c)
    ∷ when (not (is_idle (client_at w c))) (busy c)
    ∷ when (nat_lt last_number w.service.begins) (spent c)
    ∷ [])

abbrev pub begin_after : World → ℕ → World
begin_after w c =
    let held = Held (record { begun = w.service.begins; filled = []; sources = [] }) in
    with_service w (with_begins (with_client w.service c held) (w.service.begins + 1))

abbrev pub begin_outcome : World → ℕ → Outcome
begin_outcome w c =
    unless (begin_refusal w c) w (gives (Begun (record { client = c; begun = w.service.begins })) (begin_after w c))

-- ---- park and pick up

abbrev pub park_refusal : World → Ticket → Option Fault
park_refusal w t = first_of (if_cold w ∷ if_stale w t ∷ [])

abbrev pub park_outcome : World → Ticket → Outcome
park_outcome w t = unless (park_refusal w t) w (gives Done (with_state w t.client (Parked (open_of w t))))

abbrev pub pick_up_refusal : World → ℕ → Option Fault
pick_up_refusal w c =
    first_of
    (if_cold w
    ∷ when (nat_le clients_count c) (bad_client c)
    ∷ when (not (is_some (parked_in (client_at w c)))) (stale c)
    ∷ [])

abbrev pub pick_up_outcome : World → ℕ → Outcome
pick_up_outcome w c =
    let parked = parked_of w c in
    unless (pick_up_refusal w c) w
    (gives (Begun (record { client = c; begun = parked.begun })) (with_state w c (Held parked)))

-- ---- write and trim: the next slot, with the next version and no moves

abbrev pub fill_refusal : World → Ticket → Option Fault
fill_refusal w t =
    first_of
    (if_cold w
    ∷ if_no_row w
    ∷ when (nat_eq t.client 0) (bad_client 0)
    ∷ if_stale w t
    ∷ when (nat_le (slot_count (size w)) (length (open_of w t).filled)) (stripe_full t.client)
    ∷ when (nat_lt last_number w.service.version) (spent t.client)
    ∷ [])

abbrev pub with_slots : Open → List Filled → Open
with_slots o xs = record o { filled = o.filled ++ xs }

abbrev pub fill_after : World → Ticket → Filled → World
fill_after w t x =
    let held = Held (with_slots (open_of w t) (x ∷ [])) in
    with_service w (with_version (with_client w.service t.client held) (w.service.version + 1))

-- a trim keeps no bytes, whatever is given
abbrev pub new_slot : World → Kind → ℕ → ℕ → List ℕ → Filled
new_slot w kind file block bytes =
    filled_with (record { kind = kind; file = file; block = block; version = w.service.version; moves = 0 }) bytes

abbrev pub fill_outcome : World → Ticket → Kind → ℕ → ℕ → List ℕ → Outcome
fill_outcome w t kind file block bytes =
    unless (fill_refusal w t) w
    (gives (Number w.service.version) (fill_after w t (new_slot w kind file block bytes)))

-- ---- withdraw

abbrev pub withdraw_refusal : World → Ticket → Option Fault
withdraw_refusal w t = first_of (if_cold w ∷ if_stale w t ∷ [])

abbrev pub withdraw_outcome : World → Ticket → Outcome
withdraw_outcome w t = unless (withdraw_refusal w t) w (gives Done (with_state w t.client Idle))
