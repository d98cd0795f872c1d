-- What a cache means: what the server below means, with the cached bytes in place of those below.
use Rattle.std.specs.Prelude.{◌≡◌, ℕ, ◌+◌, ◌%◌, Bool, true, if◌then◌else◌, List, [], ◌∷◌, map, length, Some, None, Option, ◌==◌, slice_index_or, refl}
use Rattle.std.proofs.lemmas.List.{length-map}
use Rattle.std.proofs.ByRecursion.{All-map, All-weaker}
use Rattle.std.proofs.lemmas.Bool.{cond_both}
use Rattle.std.specs.Str.{bytes_eq}
use Rattle.geometry.specs.Keys.{number_of}
use Rattle.geometry.specs.Sizes.{fragment_length}
use Rattle.ordered.proofs.Maps.{rises_map}
use Rattle.server.specs.Meaning.{Piece, piece_key, Meaning, holding, bytes_under, or_else, IsPiece, Sound}
use Rattle.server.specs.declared.stored.StoredFragment.{StoredFragment}
use Rattle.cache.specs.Sizes.{slots_in_cache}
use Rattle.cache.specs.Slots.{cached, replaced}

abbrev pub over : List (Option StoredFragment) → Piece → Piece
over ss p = (p.0, or_else (cached ss p.0) p.1)

-- a key is held exactly if it is held below
abbrev pub overlaid : List (Option StoredFragment) → Meaning → Meaning
overlaid ss m = holding m (map (over ss) m.held)

-- what is cached equals what stands below
abbrev pub Agrees : Meaning → List (Option StoredFragment) → Type 0
Agrees m ss = (k : ℕ) (bytes : List ℕ) → cached ss k ≡ Some bytes → bytes_under m k ≡ Some bytes

-- whether the meaning stays when what is cached under a key is let go: from the bytes that stand below and those cached
abbrev pub spare_bytes : Option (List ℕ) → Option (List ℕ) → Bool
spare_bytes None cached_bytes = true
spare_bytes (Some bytes) None = true
spare_bytes (Some bytes) (Some cached_bytes) = bytes_eq cached_bytes bytes

abbrev pub is_spare : Meaning → List (Option StoredFragment) → ℕ → Bool
is_spare m ss k = spare_bytes (bytes_under m k) (cached ss k)

-- whether what is in a slot may go
abbrev pub is_free : Meaning → List (Option StoredFragment) → Option StoredFragment → Bool
is_free m ss None = true
is_free m ss (Some f) = is_spare m ss (number_of f.key)

-- with a fragment in slot i, if what is there may go; and whose turn it is then

abbrev pub keep_after : Meaning → List (Option StoredFragment) → ℕ → StoredFragment → List (Option StoredFragment)
keep_after m ss i f = if is_free m ss (slice_index_or ss i None) then replaced ss i f else ss

abbrev pub turn_after : Meaning → List (Option StoredFragment) → ℕ → ℕ
turn_after m ss i = if is_free m ss (slice_index_or ss i None) then (i + 1) % slots_in_cache else i

-- ---- a cache above a sound server means a sound one

abbrev WholeIn : Option (List ℕ) → Type 0
WholeIn None = Unit {0}
WholeIn (Some bytes) = length bytes ≡ fragment_length

cached_whole : (ss : List (Option StoredFragment)) (k : ℕ) → WholeIn (cached ss k)
cached_whole [] k = tt
cached_whole (None ∷ ss) k = cached_whole ss k
cached_whole (Some f ∷ ss) k =
    cond_both (number_of f.key == k) (Some f.bytes) (cached ss k) WholeIn (λ _. f.whole) (λ _. cached_whole ss k)

or_whole : (o : Option (List ℕ)) (bytes : List ℕ) → WholeIn o → length bytes ≡ fragment_length → length (or_else o bytes) ≡ fragment_length
or_whole None bytes w e = e
or_whole (Some c) bytes w e = w

pub overlaid_sound : (ss : List (Option StoredFragment)) (m : Meaning) → Sound m → Sound (overlaid ss m)
overlaid_sound ss m s = record {
  few = rw (length-map m.held (over ss)) s.few;
  small = s.small;
  rises = rises_map piece_key piece_key (over ss) (λ p. refl) m.held s.rises;
  whole =
      All-map IsPiece (over ss) m.held
      (All-weaker IsPiece (λ p. IsPiece (over ss p)) (λ p h. (h.0, or_whole (cached ss p.0) p.1 (cached_whole ss p.0) h.1)) m.held s.whole);
}
