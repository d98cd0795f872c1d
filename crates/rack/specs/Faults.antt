-- Refusals: the number, the layer and the place of each cause.
use Rattle.std.specs.Prelude.{ℕ}
use Rattle.geometry.specs.Keys.{number_of}
use Rattle.rack.specs.declared.fault.FaultCause.{FaultCause}
use Rattle.rack.specs.declared.fault.FaultCause.TheVariants as causes
use Rattle.rack.specs.declared.fault.Layer.{Layer}
use Rattle.rack.specs.declared.fault.Layer.TheVariants as layers
use Rattle.rack.specs.declared.fault.Place.{Place as CodePlace}
use Rattle.rack.specs.declared.fault.Place.TheVariants as places
use Rattle.rack.specs.declared.fault.ServiceFault.{ServiceFault}

abbrev pub cause_number : FaultCause → ℕ
cause_number causes.Cold = 1
cause_number causes.BadServer = 2
cause_number causes.BadClient = 3
cause_number causes.Busy = 4
cause_number causes.Stale = 5
cause_number causes.Out = 6
cause_number causes.Absent = 7
cause_number causes.StripeFull = 8
cause_number causes.Full = 9
cause_number causes.TableFull = 10
cause_number causes.Spent = 11
cause_number (causes.Torn fault) = 12
cause_number (causes.BadFragment cause) = 13

abbrev pub layer_of : FaultCause → Layer
layer_of (causes.Torn fault) = layers.Server
layer_of (causes.BadFragment cause) = layers.Fragment
layer_of _ = layers.Service

-- what a fault names; keys are numbers here
pub data Place : Type 0 where
  Nowhere : Place
  Client Server Stripe : ℕ → Place
  Fragment : ℕ → ℕ → Place

pub record Fault : Type 0 where
  pub cause : FaultCause
  pub place : Place

abbrev pub place_of : CodePlace → Place
place_of places.Nowhere = Nowhere
place_of (places.Client client) = Client client
place_of (places.Server server) = Server server
place_of (places.Stripe key) = Stripe (number_of key)
place_of (places.Fragment server key) = Fragment server (number_of key)

-- what a fault of the code means
abbrev pub fault_of : ServiceFault → Fault
fault_of f = record { cause = f.cause; place = place_of f.place }
