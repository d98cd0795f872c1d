-- A table's elements seen as a server's pieces.
use Rattle.std.proofs.Common.{◌≡◌, ℕ, List, map, refl}
use Rattle.std.specs.Option.{option_map}
use Rattle.std.proofs.lemmas.Bool.Decides.{nat_tests}
use Rattle.std.proofs.lemmas.List.{length-map}
use Rattle.ordered.specs.Maps.{find, put, without, least}
use Rattle.ordered.proofs.Maps.{find_map, put_map, without_map, least_map}
use Rattle.server.specs.Meaning.{piece_key}
use Rattle.server.specs.declared.stored.StoredFragment.{StoredFragment}
use Rattle.server.specs.Stored.{stored_number, piece_of}

pub found : (xs : List StoredFragment) (k : ℕ) → find piece_key (map piece_of xs) k ≡ option_map piece_of (find stored_number xs k)
found = find_map stored_number piece_key piece_of (λ _. refl)

pub stored : (xs : List StoredFragment) (e : StoredFragment) → put piece_key (map piece_of xs) (piece_of e) ≡ map piece_of (put stored_number xs e)
stored = put_map stored_number piece_key piece_of (λ _. refl)

pub deleted : (xs : List StoredFragment) (k : ℕ) → without piece_key (map piece_of xs) k ≡ map piece_of (without stored_number xs k)
deleted = without_map stored_number piece_key piece_of (λ _. refl)

pub nearest : (xs : List StoredFragment) (k : ℕ) → least piece_key (map piece_of xs) k ≡ option_map piece_of (least stored_number xs k)
nearest = least_map stored_number piece_key piece_of (λ _. refl)

pub ruleset seen = (found, stored, deleted, nearest, length-map, nat_tests)
