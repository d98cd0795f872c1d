-- The manager's table of what a log's stripes hold.
use Rattle.std.specs.Prelude.{ℕ, ◌-◌, if◌then◌else◌, List, [], ◌∷◌, ◌++◌, map, length, replicate, None, Ok, Err, Option, Result}
use Rattle.std.specs.List.{range_with_len}
use Rattle.geometry.specs.Keys.{key_number, is_key}
use Rattle.geometry.specs.Placement.{data_server}
use Rattle.geometry.specs.Sizes.{most_slots}
use Rattle.fragment.specs.declared.cause.Cause.{Cause}
use Rattle.fragment.specs.declared.delta.Delta.{Delta}
use Rattle.fragment.specs.Slots.{Filled, delta_of}
use Rattle.fragment.specs.Fragments.{read_fragment}
use Rattle.ordered.specs.declared.fault.MapFault.{MapFault}
use Rattle.server.specs.Meaning.{Meaning}
use Rattle.rack.specs.Worlds.{Table, with_entries}
use Rattle.rack.specs.Restarting.{filled_in}
use Rattle.rack.specs.Sealing.{taken, is_too_small}
use Rattle.row_packing.specs.declared.fault.PackFault.{PackFault}
use Rattle.row_packing.specs.declared.fault.PackFault.TheVariants.{Spent, Refused, Bad, TableFull}
use Rattle.row_packing.specs.Fetches.{fragment_answer, fragment_in}
use Rattle.row_packing.specs.Stores.{onward}

-- slots, each empty or filled, or why they cannot be read
abbrev pub SlotsRead : Type 0
SlotsRead = Result (List (Option Filled)) PackFault

-- ---- the slots of a stripe

-- those in a fragment that is fetched, and then read
abbrev pub slots_answer : Result (Unit {0}) MapFault → Result (List (Option Filled)) Cause → SlotsRead
slots_answer (Err f) r = Err (Refused f)
slots_answer (Ok u) (Err c) = Err (Bad c)
slots_answer (Ok u) (Ok xs) = Ok xs

-- those of data fragment i of key k, of a row of n with a server missing
abbrev pub fragment_slots : List Meaning → ℕ → Option ℕ → ℕ → ℕ → SlotsRead
fragment_slots row n missing k i =
    let s = data_server n k i in
    slots_answer (fragment_answer row n missing k s) (read_fragment n k i (fragment_in row n missing k s))

-- some, and those that follow, or the first fault
abbrev pub joined : SlotsRead → SlotsRead → SlotsRead
joined (Err f) r = Err f
joined (Ok xs) (Err f) = Err f
joined (Ok xs) (Ok ys) = Ok (xs ++ ys)

-- those of these data fragments, in order
abbrev pub slots_of : List Meaning → ℕ → Option ℕ → ℕ → List ℕ → SlotsRead
slots_of row n missing k [] = Ok []
slots_of row n missing k (i ∷ is) = joined (fragment_slots row n missing k i) (slots_of row n missing k is)

abbrev pub stripe_slots : List Meaning → ℕ → Option ℕ → ℕ → SlotsRead
stripe_slots row n missing k = slots_of row n missing k (range_with_len 0 (n - 1))

-- their deltas, and none for the slots that only a longer row has
abbrev pub stripe_deltas : List (Option Filled) → List (Option Delta)
stripe_deltas xs = map delta_of (xs ++ replicate (most_slots - length xs) None)

abbrev pub deltas_in : SlotsRead → Result (List (Option Delta)) PackFault
deltas_in (Ok xs) = Ok (map delta_of xs)
deltas_in (Err f) = Err f

abbrev pub deltas_read : SlotsRead → Result (List (Option Delta)) PackFault
deltas_read (Ok xs) = Ok (stripe_deltas xs)
deltas_read (Err f) = Err f

-- ---- entries

-- what the slots of a stripe of key k answer and leave in a table: they take entries, or are refused and leave it
abbrev pub stripe_answer : Table → SlotsRead → Result (Unit {0}) PackFault
stripe_answer t (Ok xs) = if is_too_small t t.entries (filled_in xs) then Err TableFull else Ok tt
stripe_answer t (Err f) = Err f

abbrev pub stripe_after : Table → ℕ → SlotsRead → Table
stripe_after t k (Ok xs) = if is_too_small t t.entries (filled_in xs) then t else with_entries t (taken k 0 t.entries xs)
stripe_after t k (Err f) = t

-- the slots of the client's stripe j, if it can have one
abbrev pub log_slots : List Meaning → ℕ → Option ℕ → ℕ → ℕ → SlotsRead
log_slots row n missing client j = if is_key client j then stripe_slots row n missing (key_number client j) else Err Spent

-- the first fault among these stripes, or how many entries there are after them all
abbrev pub index_answer : List Meaning → ℕ → Option ℕ → ℕ → Table → List ℕ → Result ℕ PackFault
index_answer row n missing client t [] = Ok (length t.entries)
index_answer row n missing client t (j ∷ js) =
    let xs = log_slots row n missing client j in
    onward (stripe_answer t xs) (index_answer row n missing client (stripe_after t (key_number client j) xs) js) Err

-- the table after them, or after those before the first that is refused
abbrev pub index_after : List Meaning → ℕ → Option ℕ → ℕ → Table → List ℕ → Table
index_after row n missing client t [] = t
index_after row n missing client t (j ∷ js) =
    let xs = log_slots row n missing client j in
    let after = stripe_after t (key_number client j) xs in
    onward (stripe_answer t xs) (index_after row n missing client after js) (λ _. after)
