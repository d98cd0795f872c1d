-- The world of a rack: its row, its service and the manager's table.
use Rattle.std.specs.Prelude.{ℕ, ◌^◌, ◌-◌, Bool, false, not, List, [], length, replicate, filter, slice_index_or, slice_set, Some, None, Option, nat_eq}
use Rattle.std.specs.List.{range_with_len}
use Rattle.fragment.specs.Slots.{Filled}
use Rattle.server.specs.Meaning.{Meaning, holds}
use Rattle.row.specs.Rows.{at}
use Rattle.rack.specs.Entries.{Entry}

-- the manager's table: its entries by the numbers of their blocks, and how many it has room for
pub record Table : Type 0 where
  pub room : ℕ
  pub entries : List Entry

-- a client's open stripe: the begin number of its ticket, the slots filled so far, and the stripes noted as sources
pub record Open : Type 0 where
  pub begun : ℕ
  pub filled : List Filled
  pub sources : List ℕ

pub data Client : Type 0 where
  Idle : Client
  Held Parked : Open → Client

-- `out` is the server that is out; `stripes` has the next stripe of each client; `version` and `begins` are the next ones
pub record Service : Type 0 where
  pub warm : Bool
  pub out : Option ℕ
  pub clients : List Client
  pub stripes : List ℕ
  pub version : ℕ
  pub begins : ℕ

pub record World : Type 0 where
  pub row : List Meaning
  pub service : Service
  pub table : Table

-- what a begin gives, and a pick up gives back
pub record Ticket : Type 0 where
  pub client : ℕ
  pub begun : ℕ

abbrev pub clients_count : ℕ
clients_count = 8

-- the last stripe number, version and begin number
abbrev pub last_number : ℕ
last_number = 2 ^ 32 - 1

abbrev pub new_service : Service
new_service =
    record {
      warm = false;
      out = None;
      clients = replicate clients_count Idle;
      stripes = replicate clients_count 0;
      version = 1;
      begins = 1;
    }

-- ---- a world with one thing changed

abbrev pub with_clients : Service → List Client → Service
with_clients s clients = record s { clients = clients }

abbrev pub with_out : Service → Option ℕ → Service
with_out s out = record s { out = out }

abbrev pub with_stripes : Service → List ℕ → Service
with_stripes s stripes = record s { stripes = stripes }

abbrev pub with_version : Service → ℕ → Service
with_version s version = record s { version = version }

abbrev pub with_begins : Service → ℕ → Service
with_begins s begins = record s { begins = begins }

abbrev pub cooled : Service → Service
cooled s = record s { warm = false }

abbrev pub with_row : World → List Meaning → World
with_row w row = record w { row = row }

abbrev pub with_service : World → Service → World
with_service w service = record w { service = service }

abbrev pub with_entries : Table → List Entry → Table
with_entries t entries = record t { entries = entries }

-- ---- clients

abbrev pub client_at : World → ℕ → Client
client_at w c = slice_index_or w.service.clients c Idle

abbrev pub with_client : Service → ℕ → Client → Service
with_client s c client = with_clients s (slice_set s.clients c client)

-- the filled slots of a client's open stripe
abbrev pub filled_of : Client → List Filled
filled_of Idle = []
filled_of (Held o) = o.filled
filled_of (Parked o) = o.filled

-- ---- servers

abbrev pub size : World → ℕ
size w = length w.row

abbrev pub is_out : Option ℕ → ℕ → Bool
is_out None s = false
is_out (Some out) s = nat_eq out s

-- the servers of a row of n in use where one is out
abbrev pub in_use : ℕ → Option ℕ → List ℕ
in_use n out = filter (λ s. not (is_out out s)) (range_with_len 0 n)

abbrev pub used_of : List Meaning → Option ℕ → List ℕ
used_of row out = in_use (length row) out

abbrev pub used : World → List ℕ
used w = used_of w.row w.service.out

-- the lowest of the servers in use, by which it is told which stripes are sealed
abbrev pub lowest_of : List Meaning → List ℕ → Meaning
lowest_of row us = at row (slice_index_or us 0 0)

abbrev pub lowest : World → Meaning
lowest w = lowest_of w.row (used w)

abbrev pub is_sealed : World → ℕ → Bool
is_sealed w k = holds (lowest w) k

-- ---- what a cut leaves

-- the servers keep what they hold; the table is empty, and the service new and cold
abbrev pub after_cut : World → List Meaning → World
after_cut w row = record { row = row; service = new_service; table = with_entries w.table [] }
