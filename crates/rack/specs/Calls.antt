-- The twelve calls as values, and what each answers and leaves.
use Rattle.std.specs.Prelude.{ℕ, List, [], Option}
use Rattle.fragment.specs.declared.delta.Kind.TheVariants as kinds
use Rattle.rack.specs.Worlds.{World, Ticket}
use Rattle.rack.specs.Answers.{Outcome}
use Rattle.rack.specs.Opening.{begin_outcome, park_outcome, pick_up_outcome, fill_outcome, withdraw_outcome}
use Rattle.rack.specs.Sealing.{seal_outcome}
use Rattle.rack.specs.Reading.{read_outcome}
use Rattle.rack.specs.Gathering.{gather_outcome}
use Rattle.rack.specs.Rebuilding.{pull_outcome, rebuild_outcome}
use Rattle.rack.specs.Restarting.{restart_outcome}

-- a client; a ticket; a file, a block and its bytes; a key; a server; a budget of changes
pub data Call : Type 0 where
  Begin PickUp Pull : ℕ → Call
  Park Withdraw : Ticket → Call
  Write : Ticket → ℕ → ℕ → List ℕ → Call
  Trim : Ticket → ℕ → ℕ → Call
  Gather Seal : Ticket → ℕ → Call
  Read : ℕ → ℕ → Call
  Rebuild : ℕ → ℕ → Call
  Restart : Option ℕ → ℕ → Call

abbrev pub outcome : World → Call → Outcome
outcome w (Begin client) = begin_outcome w client
outcome w (PickUp client) = pick_up_outcome w client
outcome w (Pull server) = pull_outcome w server
outcome w (Park ticket) = park_outcome w ticket
outcome w (Withdraw ticket) = withdraw_outcome w ticket
outcome w (Write ticket file block bytes) = fill_outcome w ticket kinds.Write file block bytes
outcome w (Trim ticket file block) = fill_outcome w ticket kinds.Trim file block []
outcome w (Gather ticket key) = gather_outcome w ticket key
outcome w (Seal ticket budget) = seal_outcome w ticket budget
outcome w (Read file block) = read_outcome w file block
outcome w (Rebuild server budget) = rebuild_outcome w server budget
outcome w (Restart out budget) = restart_outcome w out budget
