-- What a turn of a client is refused with, what it gives, and the state that it leaves.
use Rattle.std.specs.Prelude.{ℕ, not, is_some, List, [], Some, None, Option, unwrap_or, slice_index_or, slice_set}
use Rattle.rack.specs.declared.fault.FaultCause.{FaultCause}
use Rattle.rack.specs.declared.fault.FaultCause.TheVariants.{Busy, Stale}
use Rattle.rack.specs.Lists.{when}
use Rattle.rack.specs.Worlds.{Open, Client, Idle, Held, Parked}
use Rattle.rack.specs.Opening.{no_open, is_idle, held_as, parked_in}
use Rattle.clients.specs.declared.turn.Turn.{Turn}
use Rattle.clients.specs.declared.turn.Turn.TheVariants as turns

-- the state of client c
abbrev pub client_in : List Client → ℕ → Client
client_in cs c = slice_index_or cs c Idle

-- the open stripe that is held under this begin number, if one is
abbrev pub stripe_held : ℕ → Client → Open
stripe_held begun client = unwrap_or (held_as begun client) no_open

abbrev pub stripe_parked : Client → Open
stripe_parked client = unwrap_or (parked_in client) no_open

abbrev pub stripe_begun : ℕ → Open
stripe_begun begun = record { begun = begun; filled = []; sources = [] }

abbrev pub if_not_idle : Client → Option FaultCause
if_not_idle client = when (not (is_idle client)) Busy

abbrev pub if_not_held : ℕ → Client → Option FaultCause
if_not_held begun client = when (not (is_some (held_as begun client))) Stale

abbrev pub if_not_parked : Client → Option FaultCause
if_not_parked client = when (not (is_some (parked_in client))) Stale

-- ---- turns

abbrev pub turn_refusal : Client → Turn → Option FaultCause
turn_refusal client (turns.Begin begun) = if_not_idle client
turn_refusal client (turns.Park begun) = if_not_held begun client
turn_refusal client turns.PickUp = if_not_parked client
turn_refusal client (turns.End begun) = if_not_held begun client

-- the state that an accepted turn leads to
abbrev pub turned_to : Client → Turn → Client
turned_to client (turns.Begin begun) = Held (stripe_begun begun)
turned_to client (turns.Park begun) = Parked (stripe_held begun client)
turned_to client turns.PickUp = Held (stripe_parked client)
turned_to client (turns.End begun) = Idle

-- the stripe that an accepted turn is about
abbrev pub turned_stripe : Client → Turn → Open
turned_stripe client (turns.Begin begun) = stripe_begun begun
turned_stripe client (turns.Park begun) = stripe_held begun client
turned_stripe client turns.PickUp = stripe_parked client
turned_stripe client (turns.End begun) = stripe_held begun client

-- an end gives the stripe out
abbrev pub taken_out : Client → Turn → Option Open
taken_out client (turns.End begun) = Some (stripe_held begun client)
taken_out client turn = None

-- ---- a list of clients after a call on one of them

module _ {A : Type 0} where
  -- a refusal leaves what was
  abbrev pub unless_refused : Option FaultCause → A → A → A
  unless_refused (Some cause) was now = was
  unless_refused None was now = now

abbrev pub with_turn : List Client → ℕ → Turn → List Client
with_turn cs c turn =
    let client = client_in cs c in
    unless_refused (turn_refusal client turn) cs (slice_set cs c (turned_to client turn))
