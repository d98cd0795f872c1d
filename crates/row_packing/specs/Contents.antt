-- What of a log lies on which server.
use Rattle.std.specs.Prelude.{◌≡◌, ℕ, ◌<◌, false, List, Option, map, filter}
use Rattle.std.specs.List.{range_with_len}
use Rattle.geometry.specs.Keys.{key_number, is_key}
use Rattle.ordered.specs.declared.fault.MapFault.TheVariants.{Absent}
use Rattle.server.specs.Meaning.{Meaning, holds, bytes_under}
use Rattle.row.specs.Rows.{at}
use Rattle.row_packing.specs.declared.fault.PackFault.{PackFault}
use Rattle.row_packing.specs.declared.fault.PackFault.TheVariants.{Memory, Spent, Refused, Bad, TableFull}

-- the keys of the client's first stripes that server s holds
abbrev pub held_of : List Meaning → ℕ → ℕ → ℕ → List ℕ
held_of row client count s = filter (holds (at row s)) (map (key_number client) (range_with_len 0 count))

-- what a listing of them stops by: no memory, or a stripe's number that no key has
abbrev pub StopsBy : ℕ → ℕ → PackFault → Type 0
StopsBy client count Memory = Unit {0}
StopsBy client count Spent = (j : ℕ) × (j < count) × (is_key client j ≡ false)
StopsBy client count (Refused fault) = ⊥
StopsBy client count (Bad cause) = ⊥
StopsBy client count TableFull = ⊥

-- the bytes that server s has of the client's stripe j, if it has them
abbrev pub bytes_of_stripe : List Meaning → ℕ → ℕ → ℕ → Option (List ℕ)
bytes_of_stripe row client s j = bytes_under (at row s) (key_number client j)

-- what fetching all of them stops by: as above, or one that server s has not
abbrev pub LacksOr : List Meaning → ℕ → ℕ → ℕ → PackFault → Type 0
LacksOr row client count s Memory = Unit {0}
LacksOr row client count s Spent = (j : ℕ) × (j < count) × (is_key client j ≡ false)
LacksOr row client count s (Refused fault) = (fault ≡ Absent) × (j : ℕ) × (j < count) × (holds (at row s) (key_number client j) ≡ false)
LacksOr row client count s (Bad cause) = ⊥
LacksOr row client count s TableFull = ⊥
