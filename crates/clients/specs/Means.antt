-- What clients mean.
use Rattle.std.specs.Prelude.{ℕ, List, map, Some, None, Option}
use Rattle.rack.specs.Worlds.{Open, Client, Idle, Held, Parked, Ticket}
use Rattle.open_stripe.specs.Means.{open_of}
use Rattle.clients.specs.declared.number.ClientNumber.{ClientNumber}
use Rattle.clients.specs.declared.state.ClientState.{ClientState}
use Rattle.clients.specs.declared.state.ClientState.TheVariants as states
use Rattle.clients.specs.declared.list.Clients.{Clients}
use Rattle.clients.specs.declared.ticket.Ticket.{Ticket as CodeTicket}

abbrev pub number_in : Option ClientNumber → Option ℕ
number_in (Some c) = Some c.number
number_in None = None

abbrev pub client_of : ClientState → Client
client_of states.Idle = Idle
client_of (states.Held s) = Held (open_of s)
client_of (states.Parked s) = Parked (open_of s)

-- the open stripe of a client, held or parked
abbrev pub stripe_of : Client → Option Open
stripe_of Idle = None
stripe_of (Held o) = Some o
stripe_of (Parked o) = Some o

abbrev pub clients_of : Clients → List Client
clients_of c = map client_of c.states

module _ {R : Type 0} where
  abbrev pub ticket_of : CodeTicket R → Ticket
  ticket_of t = record { client = t.client.number; begun = t.begun }
