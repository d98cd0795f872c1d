-- Records of a log: 520 bytes each. Byte 0 is the state, 0 free or 1 held; byte 1 the client; bytes 2 and 3 are zero;
-- bytes 4 to 7 the stripe's number, low byte first; then the fragment. A free record is all zero.
use Rattle.std.specs.Prelude.{ℕ, zero, suc, ◌+◌, ◌*◌, ◌/◌, Bool, ◌&&◌, List, [], ◌∷◌, ◌++◌, length, take, drop, replicate, ◌==◌, slice_index}
use Rattle.geometry.specs.Bytes.{le4, word4}
use Rattle.geometry.specs.Keys.{key_number, is_key}
use Rattle.geometry.specs.Sizes.{fragment_length}
use Rattle.server.specs.Meaning.{Piece}

abbrev pub lead_length : ℕ
lead_length = 8

abbrev pub record_length : ℕ
record_length = lead_length + fragment_length

abbrev pub stripe_in : List ℕ → ℕ
stripe_in r = word4 r 4

abbrev pub record_key : List ℕ → ℕ
record_key r = key_number (slice_index r 1) (stripe_in r)

abbrev pub piece_in : List ℕ → Piece
piece_in r = (record_key r, drop lead_length r)

-- state 1, a key that can be formed, two zeros; four bytes always make a stripe's number
abbrev pub is_held : List ℕ → Bool
is_held r = slice_index r 0 == 1 && is_key (slice_index r 1) (stripe_in r) && slice_index r 2 == 0 && slice_index r 3 == 0

-- a held record as it is written: its first eight bytes, and all of it
abbrev pub lead : ℕ → ℕ → List ℕ
lead client stripe = 1 ∷ client ∷ 0 ∷ 0 ∷ le4 stripe

abbrev pub held_record : ℕ → ℕ → List ℕ → List ℕ
held_record client stripe fragment = lead client stripe ++ fragment

abbrev pub free_record : List ℕ
free_record = replicate record_length 0

-- the first n records of an area
abbrev pub records : ℕ → List ℕ → List (List ℕ)
records zero area = []
records (suc n) area = take record_length area ∷ records n (drop record_length area)

-- all the whole records of these bytes
abbrev pub records_in : List ℕ → List (List ℕ)
records_in bytes = records (length bytes / record_length) bytes

abbrev pub record_at : List ℕ → ℕ → List ℕ
record_at area i = take record_length (drop (record_length * i) area)
