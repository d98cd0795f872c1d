-- The meaning of an area is that of a server, whatever its bytes are.
use Rattle.std.specs.Prelude.{◌≡◌, ℕ, zero, suc, ◌+◌, ◌*◌, ◌^◌, ◌<◌, ◌≤◌, Bool, true, false, if◌then◌else◌, ◌&&◌, List, [], ◌∷◌, map, length, take, drop, ◌==◌, nat_lt, slice_index, refl}
use Rattle.std.proofs.Common.{arith, ltb-true}
use Rattle.std.specs.List.{AllByRecursion}
use Rattle.std.proofs.lemmas.Bool.{cond_both, and_parts}
use Rattle.std.proofs.lemmas.List.{length-drop, length-take-le, length-map}
use Rattle.geometry.specs.Keys.{is_key, stripes}
use Rattle.ordered.specs.Maps.{put, Rises}
use Rattle.ordered.proofs.Maps.{rises_put}
use Rattle.server.specs.Meaning.{Piece, piece_key, IsPiece, Sound}
use Rattle.log_server.specs.Records.{record_length, piece_in, is_held, stripe_in, records}
use Rattle.log_server.specs.Area.{front, whole_records, records_of, in_order, area_pieces, area_places, map_of, area_meaning}

pub rises_map : (ps : List Piece) → Rises piece_key (map_of ps)
rises_map [] = refl
rises_map (p ∷ ps) = rises_put piece_key (map_of ps) p (rises_map ps)

length_put : (ps : List Piece) (p : Piece) → length (put piece_key ps p) ≤ length ps + 1
length_put [] p = omega arith
length_put (q ∷ ps) p =
    let ih = length_put ps p in
    cond_both (nat_lt q.0 p.0) (q ∷ put piece_key ps p) (if q.0 == p.0 then p ∷ ps else p ∷ q ∷ ps) (λ (t : List Piece). length t ≤ length (q ∷ ps) + 1)
    (λ _. omega arith)
    (λ _. cond_both (q.0 == p.0) (p ∷ ps) (p ∷ q ∷ ps) (λ (t : List Piece). length t ≤ length (q ∷ ps) + 1) (λ _. omega arith) (λ _. omega arith))

length_map_of : (ps : List Piece) → length (map_of ps) ≤ length ps
length_map_of [] = omega arith
length_map_of (p ∷ ps) = let ih = length_map_of ps in let l = length_put (map_of ps) p in omega arith

all_put : (ps : List Piece) (p : Piece) → IsPiece p → AllByRecursion IsPiece ps → AllByRecursion IsPiece (put piece_key ps p)
all_put [] p h hs = (h, tt)
all_put (q ∷ ps) p h hs =
    cond_both (nat_lt q.0 p.0) (q ∷ put piece_key ps p) (if q.0 == p.0 then p ∷ ps else p ∷ q ∷ ps) (AllByRecursion IsPiece)
    (λ _. (hs.0, all_put ps p h hs.1))
    (λ _. cond_both (q.0 == p.0) (p ∷ ps) (p ∷ q ∷ ps) (AllByRecursion IsPiece) (λ _. (h, hs.1)) (λ _. (h, hs)))

all_map_of : (ps : List Piece) → AllByRecursion IsPiece ps → AllByRecursion IsPiece (map_of ps)
all_map_of [] hs = tt
all_map_of (p ∷ ps) hs = all_put (map_of ps) p hs.0 (all_map_of ps hs.1)

-- a held record's piece
held_piece : (r : List ℕ) → length r ≡ record_length → is_held r ≡ true → IsPiece (piece_in r)
held_piece r l h =
    let a = and_parts (slice_index r 0 == 1 && is_key (slice_index r 1) (stripe_in r) && slice_index r 2 == 0) (slice_index r 3 == 0) h in
    let b = and_parts (slice_index r 0 == 1 && is_key (slice_index r 1) (stripe_in r)) (slice_index r 2 == 0) a.0 in
    let c = and_parts (slice_index r 0 == 1) (is_key (slice_index r 1) (stripe_in r)) b.0 in
    let d = and_parts (nat_lt (slice_index r 1) 8) (nat_lt (stripe_in r) stripes) c.1 in
    let e = ltb-true (slice_index r 1) 8 d.0 in
    let f = ltb-true (stripe_in r) stripes d.1 in
    (omega arith, simp length-drop (omega arith))

front_pieces : (n : ℕ) (xs : List ℕ) → record_length * n ≤ length xs → AllByRecursion IsPiece (map piece_in (front (records n xs)))
front_pieces zero xs l = tt
front_pieces (suc n) xs l =
    let r : List ℕ = take record_length xs in
    let m : record_length * n ≤ length (drop record_length xs) = simp length-drop (omega arith) in
    cond_both (is_held r) (r ∷ front (records n (drop record_length xs))) [] (λ (t : List (List ℕ)). AllByRecursion IsPiece (map piece_in t))
    (λ h. (held_piece r (length-take-le record_length xs (omega arith)) h, front_pieces n (drop record_length xs) m))
    (λ _. tt)

pub length_front : (n : ℕ) (xs : List ℕ) → length (front (records n xs)) ≤ n
length_front zero xs = omega arith
length_front (suc n) xs =
    let ih = length_front n (drop record_length xs) in
    cond_both (is_held (take record_length xs)) (take record_length xs ∷ front (records n (drop record_length xs))) [] (λ (t : List (List ℕ)). length t ≤ suc n) (λ _. omega arith) (λ _. omega arith)

-- whether the area is in order or not
sound_either : (b : Bool) (n : ℕ) (ps : List Piece) → n < 2 ^ 32 → length ps ≤ n → AllByRecursion IsPiece ps
    → Sound (record { places = if b then n else 0; held = map_of (if b then ps else []) })
sound_either true n ps s l w = record { few = (let m = length_map_of ps in omega arith); small = s; rises = rises_map ps; whole = all_map_of ps w }
sound_either false n ps s l w = record { few = omega arith; small = omega arith; rises = refl; whole = tt }

pub area_sound : (xs : List ℕ) → Sound (area_meaning xs)
unfolding area_pieces area_places
area_sound xs =
    let n : ℕ = whole_records xs in
    let l = length_front n xs in
    let m = length-map (front (records n xs)) piece_in in
    sound_either (in_order (records_of xs)) n (map piece_in (front (records_of xs))) (omega arith) (omega arith) (front_pieces n xs (omega arith))
