-- What the bytes of an area mean.
use Rattle.std.specs.Prelude.{ℕ, ◌/◌, min, Bool, true, if◌then◌else◌, not, ◌&&◌, List, [], ◌∷◌, map, length}
use Rattle.std.specs.List.{list_all}
use Rattle.geometry.specs.Bytes.{zeros}
use Rattle.ordered.specs.Maps.{has, put}
use Rattle.server.specs.Meaning.{Piece, piece_key, Meaning}
use Rattle.log_server.specs.Records.{record_length, piece_in, is_held, records, records_in}

abbrev pub most_records : ℕ
most_records = 4294967295

abbrev pub whole_records : List ℕ → ℕ
whole_records area = min (length area / record_length) most_records

abbrev pub records_of : List ℕ → List (List ℕ)
records_of area = records (whole_records area) area

-- the pieces of the first n records
abbrev pub pieces : ℕ → List ℕ → List Piece
pieces n area = map piece_in (records n area)

-- and of all the whole ones
abbrev pub pieces_in : List ℕ → List Piece
pieces_in bytes = map piece_in (records_in bytes)

-- the held records at the front, and the rest
abbrev pub front : List (List ℕ) → List (List ℕ)
front [] = []
front (r ∷ rs) = if is_held r then r ∷ front rs else []

abbrev pub rest : List (List ℕ) → List (List ℕ)
rest [] = []
rest (r ∷ rs) = if is_held r then rest rs else r ∷ rs

-- no two pieces have one key
abbrev pub apart : List Piece → Bool
apart [] = true
apart (p ∷ ps) = not (has piece_key ps (piece_key p)) && apart ps

-- the held records come first and have keys of their own, and all others are free
abbrev pub in_order : List (List ℕ) → Bool
in_order rs = list_all zeros (rest rs) && apart (map piece_in (front rs))

-- the pieces held, in the order of their records
unfoldable pub area_pieces : List ℕ → List Piece
area_pieces area = if in_order (records_of area) then map piece_in (front (records_of area)) else []

unfoldable pub area_places : List ℕ → ℕ
area_places area = if in_order (records_of area) then whole_records area else 0

-- the map of these pieces
abbrev pub map_of : List Piece → List Piece
map_of [] = []
map_of (p ∷ ps) = put piece_key (map_of ps) p

abbrev pub area_meaning : List ℕ → Meaning
area_meaning area = record { places = area_places area; held = map_of (area_pieces area) }
