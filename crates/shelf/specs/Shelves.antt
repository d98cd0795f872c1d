-- What a shelf means.
use Rattle.std.specs.Prelude.{map}
use Rattle.ordered.specs.Tables.{items, room}
use Rattle.server.specs.Meaning.{Meaning}
use Rattle.shelf.specs.declared.shelf.Shelf.{Shelf}
use Rattle.server.specs.Stored.{piece_of}

abbrev pub shelf_meaning : Shelf → Meaning
shelf_meaning s = record { places = room s.table; held = map piece_of (items s.table) }
