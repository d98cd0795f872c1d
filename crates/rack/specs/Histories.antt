-- Histories of a rack, as a relation over calls and answers.
use Rattle.std.specs.Prelude.{◌≡◌, ℕ, ◌*◌, ◌^◌, ◌<◌, ◌≤◌, true, if◌then◌else◌, List, [], map, length, ⊤, Some, None, Option, nat_lt, slice_set}
use Rattle.std.specs.List.{AllByRecursion}
use Rattle.geometry.specs.Keys.{stripes}
use Rattle.geometry.specs.Rows.{is_row}
use Rattle.geometry.specs.Sizes.{block_length}
use Rattle.fragment.specs.Laws.{Bytes}
use Rattle.server.specs.Meaning.{Meaning, Sound}
use Rattle.row.specs.Rows.{at}
use Rattle.rack.specs.Worlds.{World, new_service, with_row, size}
use Rattle.rack.specs.Answers.{Answer, Cut, Done, Number}
use Rattle.rack.specs.Calls.{Call, Pull, Write, Trim, Gather, Read, Rebuild, Restart, outcome}
use Rattle.rack.specs.Plain.{Plain, new_plain, plain_after}

-- a rack as its history knows it: its world, what it is to remember, and the server that is out, which a cold service
-- has forgotten
pub record Rack : Type 0 where
  pub world : World
  pub plain : Plain
  pub out : Option ℕ

-- empty servers with so many places, and a table with room for so many entries
abbrev pub new_rack : List ℕ → ℕ → World
new_rack places room =
    record {
      row = map (λ n. record { places = n; held = [] }) places;
      service = new_service;
      table = record { room = room; entries = [] };
    }

-- ---- one call more

abbrev pub answer_to : Rack → Call → Answer
answer_to r call = (outcome r.world call).answer

abbrev pub pulled : ℕ → Option ℕ → Answer → Option ℕ
pulled s out Done = Some s
pulled s out _ = out

abbrev pub rebuilt : Option ℕ → Answer → Option ℕ
rebuilt out (Number n) = None
rebuilt out _ = out

abbrev pub named : ℕ → Option ℕ → Option ℕ → Option ℕ
named n out None = out
named n out (Some s) = if nat_lt s n then Some s else out

-- which server is out after a call: a server pulled, or named by a restart, whatever that answered, stays out until a
-- rebuild of it has answered its count
abbrev pub out_after : ℕ → Option ℕ → Call → Answer → Option ℕ
out_after n out (Pull server) answer = pulled server out answer
out_after n out (Rebuild server budget) answer = rebuilt out answer
out_after n out (Restart name budget) answer = named n out name
out_after n out _ answer = out

abbrev pub rack_after : Rack → Call → Rack
rack_after r call =
    record {
      world = (outcome r.world call).after;
      plain = plain_after r.world call (answer_to r call) r.plain;
      out = out_after (size r.world) r.out call (answer_to r call);
    }

-- ---- the terms

-- a restart names the server that is out; where none is, it may name one
abbrev pub Names : Option ℕ → Option ℕ → Type 0
Names None name = ⊤
Names (Some out) name = name ≡ Some out

abbrev pub Terms : Option ℕ → Call → Type 0
Terms out (Write ticket file block bytes) = (file < 2 ^ 16) × (block < 2 ^ 16) × Bytes block_length bytes
Terms out (Trim ticket file block) = (file < 2 ^ 16) × (block < 2 ^ 16)
Terms out (Gather ticket key) = key < 8 * stripes
Terms out (Read file block) = (file < 2 ^ 16) × (block < 2 ^ 16)
Terms out (Restart name budget) = Names out name
Terms out _ = ⊤

abbrev pub with_room : ℕ → World → World
with_room room w = record w { table = record w.table { room = room } }

abbrev pub in_world : Rack → World → Rack
in_world r w = record r { world = w }

-- what a server can mean
abbrev pub Fits : Meaning → Meaning → Type 0
Fits old new = (new.places ≡ old.places) × Sound new

-- what can have become of a rack
pub data History : Rack → Type 0 where
  -- empty servers under a new service
  new : (places : List ℕ) (room : ℕ)
      → is_row (length places) ≡ true
      → AllByRecursion (λ n. n < 2 ^ 32) places
      → History (record { world = new_rack places room; plain = new_plain; out = None })
  -- one more call, accepted, refused or cut
  called : {r : Rack} → History r → (call : Call) → Terms r.out call → History (rack_after r call)
  -- after a cut, the table may be a larger one
  regrown : {r : Rack}
      → History r → (call : Call) → Terms r.out call → answer_to r call ≡ Cut
      → (room : ℕ) → r.world.table.room ≤ room
      → History (in_world (rack_after r call) (with_room room (rack_after r call).world))
  -- the server that is out holds anything
  garbled : {r : Rack}
      → History r → (s : ℕ) → r.out ≡ Some s
      → (m : Meaning) → Fits (at r.world.row s) m
      → History (in_world r (with_row r.world (slice_set r.world.row s m)))
