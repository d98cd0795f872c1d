-- Answers of calls, and the fault of each refusal.
use Rattle.std.specs.Prelude.{ℕ, if◌then◌else◌, List, length, take, Some, None, Option, nat_lt}
use Rattle.fragment.specs.declared.cause.Cause.{Cause}
use Rattle.ordered.specs.declared.fault.MapFault.{MapFault}
use Rattle.row.specs.Changes.{Step, stepped_all}
use Rattle.rack.specs.declared.fault.FaultCause.TheVariants as causes
use Rattle.rack.specs.Faults.{Place, Fault, Nowhere, Client, Server, Stripe, Fragment}
use Rattle.rack.specs.Worlds.{World, Ticket, after_cut}

pub data Answer : Type 0 where
  Refused : Fault → Answer
  Cut Done : Answer
  Begun : Ticket → Answer
  Number : ℕ → Answer
  Found : ℕ → List ℕ → Answer

-- what a call answers, and the world after it
pub record Outcome : Type 0 where
  pub answer : Answer
  pub after : World

abbrev pub gives : Answer → World → Outcome
gives answer after = record { answer = answer; after = after }

-- a refusal leaves this world
abbrev pub unless : Option Fault → World → Outcome → Outcome
unless (Some fault) w whole = gives (Refused fault) w
unless None w whole = whole

-- a call that makes changes, at a budget: one that needs more stops after so many and is cut
abbrev pub within : ℕ → List Step → World → Outcome → Outcome
within budget steps w whole =
    let short = gives Cut (after_cut w (stepped_all (take budget steps) w.row)) in
    if nat_lt budget (length steps) then short else whole

-- ---- the faults, in the order of their numbers

abbrev pub cold_fault : Fault
cold_fault = record { cause = causes.Cold; place = Nowhere }

abbrev pub bad_server : Fault
bad_server = record { cause = causes.BadServer; place = Nowhere }

abbrev pub bad_client : ℕ → Fault
bad_client c = record { cause = causes.BadClient; place = Client c }

abbrev pub busy : ℕ → Fault
busy c = record { cause = causes.Busy; place = Client c }

abbrev pub stale : ℕ → Fault
stale c = record { cause = causes.Stale; place = Client c }

-- the server that is out, if one is
abbrev pub server_or_nowhere : Option ℕ → Place
server_or_nowhere None = Nowhere
server_or_nowhere (Some s) = Server s

abbrev pub out_fault : Option ℕ → Fault
out_fault out = record { cause = causes.Out; place = server_or_nowhere out }

abbrev pub nothing_there : Fault
nothing_there = record { cause = causes.Absent; place = Nowhere }

abbrev pub no_stripe : ℕ → Fault
no_stripe k = record { cause = causes.Absent; place = Stripe k }

abbrev pub stripe_full : ℕ → Fault
stripe_full c = record { cause = causes.StripeFull; place = Client c }

abbrev pub server_full : ℕ → Fault
server_full s = record { cause = causes.Full; place = Server s }

abbrev pub table_full : Fault
table_full = record { cause = causes.TableFull; place = Nowhere }

abbrev pub spent : ℕ → Fault
spent c = record { cause = causes.Spent; place = Client c }

abbrev pub torn : ℕ → ℕ → MapFault → Fault
torn s k fault = record { cause = causes.Torn fault; place = Fragment s k }

abbrev pub bad_fragment : ℕ → ℕ → Cause → Fault
bad_fragment s k cause = record { cause = causes.BadFragment cause; place = Fragment s k }
