-- A stored fragment as a piece of a server's meaning.
use Rattle.std.specs.Prelude.{ℕ}
use Rattle.geometry.specs.Keys.{number_of}
use Rattle.server.specs.Meaning.{Piece}
use Rattle.server.specs.declared.stored.StoredFragment.{StoredFragment}

abbrev pub stored_number : StoredFragment → ℕ
stored_number f = number_of f.key

abbrev pub piece_of : StoredFragment → Piece
piece_of f = (stored_number f, f.bytes)
