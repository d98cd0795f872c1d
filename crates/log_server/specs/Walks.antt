-- Walks over pieces, in the order of their records.
use Rattle.std.specs.Prelude.{ℕ, suc, if◌then◌else◌, List, [], ◌∷◌, Some, None, Option, ◌==◌}
use Rattle.std.specs.Option.{option_map}
use Rattle.server.specs.Meaning.{Piece, piece_key}

-- the first record that has a key
abbrev pub place_of : List Piece → ℕ → Option ℕ
place_of [] k = None
place_of (p ∷ ps) k = if piece_key p == k then Some 0 else option_map suc (place_of ps k)
