-- What a server means: how many places it has, and what it holds, as pairs of a key's number and the fragment's bytes
-- whose numbers rise. One meaning has one value, so that contracts are equations.
use Rattle.std.specs.Prelude.{◌≡◌, ℕ, ◌-◌, ◌*◌, ◌^◌, ◌<◌, ◌≤◌, Bool, if◌then◌else◌, List, [], length, Some, None, Ok, Err, Option, Result, ◌==◌}
use Rattle.std.specs.List.{AllByRecursion}
use Rattle.geometry.specs.Keys.{stripes}
use Rattle.geometry.specs.Sizes.{fragment_length}
use Rattle.ordered.specs.Maps.{find, has, put, without, least, Rises}
use Rattle.ordered.specs.declared.fault.MapFault.{MapFault}
use Rattle.ordered.specs.declared.fault.MapFault.TheVariants.{Held, Full, Absent}

-- a key's number and a fragment's bytes
abbrev pub Piece : Type 0
Piece = ℕ × List ℕ

abbrev pub piece_key : Piece → ℕ
piece_key p = p.0

pub record Meaning : Type 0 where
  pub places : ℕ
  pub held : List Piece

abbrev pub holding : Meaning → List Piece → Meaning
holding m ps = record { places = m.places; held = ps }

-- the four questions

abbrev pub holds : Meaning → ℕ → Bool
holds m k = has piece_key m.held k

abbrev pub key_in : Option Piece → Option ℕ
key_in (Some p) = Some p.0
key_in None = None

-- the least key held that is not below k
abbrev pub key_from : Meaning → ℕ → Option ℕ
key_from m k = key_in (least piece_key m.held k)

abbrev pub free : Meaning → ℕ
free m = m.places - length m.held

-- the bytes under a key

abbrev pub bytes_of : Option Piece → Option (List ℕ)
bytes_of (Some p) = Some p.1
bytes_of None = None

abbrev pub bytes_under : Meaning → ℕ → Option (List ℕ)
bytes_under m k = bytes_of (find piece_key m.held k)

-- what each call answers, and what it leaves

abbrev pub store_answer : Meaning → ℕ → Result (Unit {0}) MapFault
store_answer m k = if holds m k then Err Held else if free m == 0 then Err Full else Ok tt

abbrev pub store_after : Meaning → ℕ → List ℕ → Meaning
store_after m k bytes = if holds m k then m else if free m == 0 then m else holding m (put piece_key m.held (k, bytes))

-- of fetch and delete
abbrev pub held_answer : Meaning → ℕ → Result (Unit {0}) MapFault
held_answer m k = if holds m k then Ok tt else Err Absent

-- what a fetch leaves in the caller's buffer: the bytes, or what was there
abbrev pub or_else : Option (List ℕ) → List ℕ → List ℕ
or_else (Some bytes) old = bytes
or_else None old = old

abbrev pub fetched : Meaning → ℕ → List ℕ → List ℕ
fetched m k old = or_else (bytes_under m k) old

-- a key that is not there leaves the list as it was
abbrev pub delete_after : Meaning → ℕ → Meaning
delete_after m k = holding m (without piece_key m.held k)

abbrev pub wipe_after : Meaning → Meaning
wipe_after m = holding m []

-- a piece has a key that can be formed, and a fragment's bytes
abbrev pub IsPiece : Piece → Type 0
IsPiece p = (p.0 < 8 * stripes) × (length p.1 ≡ fragment_length)

-- what is true of every server's meaning
pub record Sound (m : Meaning) : Type 0 where
  pub few : length m.held ≤ m.places
  pub small : m.places < 2 ^ 32
  pub rises : Rises piece_key m.held
  pub whole : AllByRecursion IsPiece m.held
