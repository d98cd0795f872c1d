-- The bytes of an area after each call that changes them.
use Rattle.std.specs.Prelude.{ℕ, ◌+◌, ◌-◌, ◌*◌, if◌then◌else◌, List, ◌++◌, length, take, drop, replicate, Some, None, Option, ◌==◌}
use Rattle.server.specs.Meaning.{holds, free}
use Rattle.log_server.specs.Records.{record_length, free_record}
use Rattle.log_server.specs.Walks.{place_of}
use Rattle.log_server.specs.Area.{area_pieces, area_places, area_meaning}

-- record i is r, and nothing else changes
abbrev pub with_record : List ℕ → ℕ → List ℕ → List ℕ
with_record area i r = take (record_length * i) area ++ (r ++ drop (record_length * (i + 1)) area)

-- of the first h records, those after record i moved down by one, and the last of them zero
abbrev pub without_record : List ℕ → ℕ → ℕ → List ℕ
without_record area i h =
    take (record_length * i) area
    ++ (take (record_length * (h - 1 - i)) (drop (record_length * (i + 1)) area) ++ (free_record ++ drop (record_length * h) area))

abbrev pub stored : List ℕ → ℕ → List ℕ → List ℕ
stored area k r =
    if holds (area_meaning area) k then area else if free (area_meaning area) == 0 then area else with_record area (length (area_pieces area)) r

abbrev pub deleted_at : List ℕ → Option ℕ → List ℕ
deleted_at area None = area
deleted_at area (Some i) = without_record area i (length (area_pieces area))

abbrev pub deleted : List ℕ → ℕ → List ℕ
deleted area k = deleted_at area (place_of (area_pieces area) k)

-- all records zero
abbrev pub wiped : List ℕ → List ℕ
wiped area = replicate (record_length * area_places area) 0 ++ drop (record_length * area_places area) area
