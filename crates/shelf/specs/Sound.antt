-- A shelf's meaning is sound, by what its type keeps.
use Rattle.std.specs.Prelude.{List, [], ◌∷◌, refl}
use Rattle.std.proofs.Common.{arith, length-take}
use Rattle.std.specs.List.{AllByRecursion}
use Rattle.std.proofs.lemmas.List.{length-map}
use Rattle.std.proofs.ByRecursion.{All-map}
use Rattle.ordered.specs.Tables.{items}
use Rattle.ordered.proofs.Maps.{rises_map}
use Rattle.server.specs.Meaning.{Sound, IsPiece, piece_key}
use Rattle.server.specs.declared.stored.StoredFragment.{StoredFragment}
use Rattle.shelf.specs.declared.shelf.Shelf.{Shelf}
use Rattle.server.specs.Stored.{stored_number, piece_of}
use Rattle.shelf.specs.Shelves.{shelf_meaning}

pieces : (ps : List StoredFragment) → AllByRecursion (λ p. IsPiece (piece_of p)) ps
pieces [] = tt
pieces (p ∷ ps) = ((omega (arith, p.key.known, p.key.narrow), p.whole), pieces ps)

pub shelf_sound : (s : Shelf) → Sound (shelf_meaning s)
shelf_sound s =
    record {
      few = simp (length-map, length-take) (omega arith);
      small = s.small;
      rises = rises_map stored_number piece_key piece_of (λ _. refl) (items s.table) s.table.rises;
      whole = All-map IsPiece piece_of (items s.table) (pieces (items s.table));
    }
