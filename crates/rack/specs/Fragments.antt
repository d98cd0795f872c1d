-- A stripe's fragments on the servers of a row: which servers must be read for one, and what it then is.
use Rattle.std.specs.Prelude.{ℕ, if◌then◌else◌, Bool, false, not, ◌&&◌, List, [], ◌∷◌, map, Some, None, Ok, Err, Option, Result, nat_eq, slice_index_or}
use Rattle.geometry.specs.Placement.{data_server}
use Rattle.parity.specs.Xor.{xor_all, nought}
use Rattle.fragment.specs.declared.cause.Cause.{Cause}
use Rattle.fragment.specs.declared.cause.Cause.TheVariants.{BadSlot}
use Rattle.fragment.specs.Numbers.{kind_number}
use Rattle.fragment.specs.Slots.{Filled}
use Rattle.fragment.specs.Fragments.{read_fragment}
use Rattle.ordered.specs.declared.fault.MapFault.TheVariants as map_faults
use Rattle.server.specs.Meaning.{Meaning, fetched, holds}
use Rattle.row.specs.Rows.{at}
use Rattle.rack.specs.Lists.{first_of, when}
use Rattle.rack.specs.Entries.{Entry, block_in}
use Rattle.rack.specs.Faults.{Fault}
use Rattle.rack.specs.Worlds.{World, size, is_out, used}
use Rattle.rack.specs.Answers.{torn, bad_fragment}

-- the bytes under key k on server s; zeros where it has none
abbrev pub bytes_on : List Meaning → ℕ → ℕ → List ℕ
bytes_on row k s = fetched (at row s) k nought

-- the exclusive or of what these servers hold under k
abbrev pub together : List Meaning → List ℕ → ℕ → List ℕ
together row us k = xor_all (map (bytes_on row k) us)

-- the servers that must be read for the fragment on server s: all in use for that of the server out
abbrev pub reads_for : List ℕ → Option ℕ → ℕ → List ℕ
reads_for us out s = if is_out out s then us else s ∷ []

abbrev pub read_for : World → ℕ → List ℕ
read_for w s = reads_for (used w) w.service.out s

-- the fragment of k on server s: what it holds or, of the server out, put together from those in use
abbrev pub fragment_from : List Meaning → List ℕ → Option ℕ → ℕ → ℕ → List ℕ
fragment_from row us out k s =
    let apart = together row us k in
    let own = bytes_on row k s in
    if is_out out s then apart else own

abbrev pub fragment_at : World → ℕ → ℕ → List ℕ
fragment_at w k s = fragment_from w.row (used w) w.service.out k s

abbrev pub lacks : World → ℕ → ℕ → Option Fault
lacks w k s = when (not (holds (at w.row s) k)) (torn s k map_faults.Absent)

-- the first of these servers that lacks k
abbrev pub torn_among : World → ℕ → List ℕ → Option Fault
torn_among w k us = first_of (map (lacks w k) us)

-- ---- data fragment i of a stripe as read, against the entries that point into it

abbrev pub slots_read : World → ℕ → ℕ → Result (List (Option Filled)) Cause
slots_read w k i = read_fragment (size w) k i (fragment_at w k (data_server (size w) k i))

abbrev pub slots_or_none : Result (List (Option Filled)) Cause → List (Option Filled)
slots_or_none (Ok xs) = xs
slots_or_none (Err c) = []

-- a slot holds the delta of an entry
abbrev pub has_delta : Entry → Option Filled → Bool
has_delta e None = false
has_delta e (Some x) =
    nat_eq (kind_number e.kind) (kind_number x.delta.kind)
    && nat_eq e.block (block_in x)
    && nat_eq e.pair.version x.delta.version
    && nat_eq e.pair.moves x.delta.moves

abbrev pub slot_number : List (Option Filled) → ℕ → Option Filled
slot_number xs j = slice_index_or xs j None

-- the cause in a fragment as read, each of whose entries must be held by its slot
abbrev pub cause_in : Result (List (Option Filled)) Cause → List Entry → Option Cause
cause_in (Err c) es = Some c
cause_in (Ok xs) [] = None
cause_in (Ok xs) (e ∷ es) = if has_delta e (slot_number xs e.slot) then cause_in (Ok xs) es else Some BadSlot

abbrev pub bad_with : ℕ → ℕ → Option Cause → Option Fault
bad_with s k None = None
bad_with s k (Some c) = Some (bad_fragment s k c)

-- the fault in data fragment i of the stripe of k, named by the server that it belongs to
abbrev pub bad_in : World → ℕ → ℕ → List Entry → Option Fault
bad_in w k i es = bad_with (data_server (size w) k i) k (cause_in (slots_read w k i) es)
