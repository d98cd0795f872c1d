-- What is wanted of every history. Stated here; nothing in this crate shows it.
use Rattle.std.specs.Prelude.{◌≡◌, ℕ, ◌-◌, ◌<◌, ◌≤◌, true, false, List, length, filter, Some, None, Option}
use Rattle.std.specs.List.{AllByRecursion}
use Rattle.parity.specs.Xor.{Long}
use Rattle.server.specs.Meaning.{Meaning, bytes_under}
use Rattle.row.specs.Rows.{at}
use Rattle.stripe.specs.Rows.{fragment_on}
use Rattle.rack.specs.Lists.{is_among}
use Rattle.rack.specs.Worlds.{World, size, used, used_of, is_sealed}
use Rattle.rack.specs.Answers.{Answer, Refused, Number, Found, nothing_there}
use Rattle.rack.specs.Rebuilding.{sealed_keys}
use Rattle.rack.specs.Restarting.{counts, restart_steps, counting_keys}
use Rattle.rack.specs.Calls.{Read, Rebuild, Restart}
use Rattle.rack.specs.Plain.{kept_of, newest, marked_of}
use Rattle.rack.specs.Histories.{Rack, History, Names, Terms, answer_to, rack_after}

-- a read's answer gives what is kept: its version and bytes, or nothing
abbrev pub Gives : Option (ℕ × List ℕ) → Answer → Type 0
Gives None answer = answer ≡ Refused nothing_there
Gives (Some kept) answer = answer ≡ Found kept.0 kept.1

-- every read of a warm rack gives the newest write kept; it must name a block, since a number past the last block of a
-- file is that of a block of the next
abbrev pub ReadsGiveTheNewest : Type 0
ReadsGiveTheNewest =
    (r : Rack)
    → History r
    → r.world.service.warm ≡ true
    → (file block : ℕ)
    → Terms r.out (Read file block)
    → Gives (kept_of (newest r.plain file block)) (answer_to r (Read file block))

-- what the servers `us` hold under k are their fragments of the stripe with these data fragments
pub record Holds (row : List Meaning) (us : List ℕ) (k : ℕ) (ds : List (List ℕ)) : Type 0 where
  pub count : length ds ≡ length row - 1
  pub long : AllByRecursion Long ds
  pub each : (u : ℕ) → is_among us u ≡ true → bytes_under (at row u) k ≡ Some (fragment_on (length row) k ds u)

-- the stripe is sealed, and the server holds the fragment placed on it; or it is not, and the server does not hold the key
pub record IsRebuilt (w after : World) (s k : ℕ) : Type 0 where
  pub sealed :
      is_sealed w k ≡ true
      → (ds : List (List ℕ)) × Holds w.row (used w) k ds × (bytes_under (at after.row s) k ≡ Some (fragment_on (size w) k ds s))
  pub other : is_sealed w k ≡ false → bytes_under (at after.row s) k ≡ None

-- a rebuilt server holds its fragment of each stripe sealed when the rebuild was called, and no other
abbrev pub RebuiltServersAreWhole : Type 0
RebuiltServersAreWhole =
    (r : Rack) (s budget n : ℕ)
    → History r
    → answer_to r (Rebuild s budget) ≡ Number n
    → (n ≡ length (sealed_keys r.world)) × ((k : ℕ) → IsRebuilt r.world (rack_after r (Rebuild s budget)).world s k)

-- a seal was cut that was to store the stripe of key k; the next restart that is accepted finds it to count, or not: then
-- its records are sealed and its stripe is, or neither is
pub record Settles (r after : Rack) (us : List ℕ) (c k : ℕ) : Type 0 where
  pub whole :
      counts r.world.row us k ≡ true
      → (after.plain.records ≡ filter (λ q. q.sealed) (marked_of c r.plain.records)) × (is_sealed after.world k ≡ true)
  pub none :
      counts r.world.row us k ≡ false
      → (after.plain.records ≡ filter (λ q. q.sealed) r.plain.records) × (is_sealed after.world k ≡ false)

abbrev pub CutSealsCountWholeOrNot : Type 0
CutSealsCountWholeOrNot =
    (r : Rack) (c k budget n : ℕ) (name : Option ℕ)
    → History r
    → r.plain.awaits ≡ Some (c, k)
    → Names r.out name
    → answer_to r (Restart name budget) ≡ Number n
    → Settles r (rack_after r (Restart name budget)) (used_of r.world.row name) c k

-- any other cut loses records that are not sealed, and no other
abbrev pub OtherCutsLoseUnsealed : Type 0
OtherCutsLoseUnsealed =
    (r : Rack) (budget n : ℕ) (name : Option ℕ)
    → History r
    → r.plain.awaits ≡ None
    → Names r.out name
    → answer_to r (Restart name budget) ≡ Number n
    → (rack_after r (Restart name budget)).plain.records ≡ filter (λ q. q.sealed) r.plain.records

-- a name is none, or that of a server of the row
abbrev pub IsServer : World → Option ℕ → Type 0
IsServer w None = Unit {0}
IsServer w (Some s) = s < size w

-- a restart on the terms whose budget reaches to its last change is accepted
abbrev pub RestartsAreAccepted : Type 0
RestartsAreAccepted =
    (r : Rack) (budget : ℕ) (name : Option ℕ)
    → History r
    → Names r.out name
    → IsServer r.world name
    → length (restart_steps r.world name) ≤ budget
    → answer_to r (Restart name budget) ≡ Number (length (counting_keys r.world.row (used_of r.world.row name)))

pub record Promises : Type 0 where
  pub reads : ReadsGiveTheNewest
  pub rebuilt : RebuiltServersAreWhole
  pub seals : CutSealsCountWholeOrNot
  pub cuts : OtherCutsLoseUnsealed
  pub restarts : RestartsAreAccepted
