-- What calls mean, by what they do to the bytes.
use Rattle.std.proofs.Common.{◌≡◌, ℕ, ◌+◌, ◌-◌, ◌*◌, ◌/◌, ◌%◌, ◌^◌, ◌<◌, Bool, true, false, cond, eqb, List, [], ◌∷◌, ◌++◌, length, drop, is_some, Some, None, Ok, Err, Option, Result, sym, refl, ap, ◌∙◌, mod-eq_of_lt, arith}
use native.Mathlib.Nat.{div-div-eq-div-mul}
use borrow.Author.Tests.{eqb-false}
use Rattle.std.proofs.lemmas.Bool.Decides.{nat_tests}
use Rattle.std.proofs.lemmas.List.{length_push}
use Rattle.std.proofs.lemmas.Result.{err_from_is_err_and}
use Rattle.std.specs.Option.{ok_or}
use Rattle.std.specs.Result.{IsErrAnd}
use Rattle.std.specs.List.{AllByRecursion}
use Rattle.ordered.specs.declared.fault.MapFault.{MapFault}
use Rattle.ordered.specs.declared.fault.MapFault.TheVariants.{Absent}
use Rattle.geometry.specs.Keys.{key_number, stripes}
use Rattle.geometry.specs.Sizes.{fragment_length}
use Rattle.ordered.specs.Maps.{has, put, without, least}
use Rattle.ordered.proofs.Maps.{without_absent, length_without_held}
use Rattle.server.specs.Meaning.{Piece, piece_key, IsPiece, holding, key_in, bytes_of, or_else, holds, key_from, free, fetched, held_answer, store_after, delete_after, wipe_after}
use Rattle.log_server.specs.Records.{lead_length, record_length, record_at, stripe_in, piece_in, is_held, held_record}
use Rattle.log_server.specs.Area.{pieces, area_pieces, area_places, map_of, area_meaning}
use Rattle.log_server.specs.Calls.{with_record, without_record, stored, deleted_at, deleted, wiped}
use Rattle.log_server.specs.Walks.{place_of}
use Rattle.log_server.specs.Sound.{area_sound}
use Rattle.log_server.proofs.Cuts.{pieces_from}
use Rattle.log_server.proofs.Pieces.{find_map_of, length_map_of, map_of_push, map_of_without}
use Rattle.log_server.proofs.Places.{has_place, place_within, find_none, find_place}
use Rattle.log_server.proofs.Areas.{area_kept, area_small, area_room, area_few, kept_pieces, area_store, area_delete, area_wipe}

least_small : (ps : List Piece) (k n : ℕ) → AllByRecursion IsPiece ps → key_in (least piece_key ps k) ≡ Some n → n < 8 * stripes
least_small [] k n w e = let z : ◌≡◌ {A = ℕ} 0 1 = cc in absurd (omega arith)
least_small (p ∷ ps) k n w e = let ih = least_small ps k n w.1 in let s = w.0.0 in grind (arith, nat_tests)

module _ (xs : List ℕ) where
  has_is : (k : ℕ) → holds (area_meaning xs) k ≡ has piece_key (area_pieces xs) k
  has_is k = ap is_some (find_map_of (area_pieces xs) k)

  pub holds_is : (k : ℕ) → holds (area_meaning xs) k ≡ is_some (place_of (area_pieces xs) k)
  holds_is k = has_is k ∙ has_place (area_pieces xs) k

  pub free_is : free (area_meaning xs) ≡ area_places xs - length (area_pieces xs)
  free_is = ap (λ (n : ℕ). area_places xs - n) (length_map_of (area_pieces xs) (area_kept xs).alone)

  pub held_is : (k : ℕ) (o : Option ℕ) → place_of (area_pieces xs) k ≡ o → held_answer (area_meaning xs) k ≡ cond (is_some o) (Ok tt) (Err Absent)
  held_is k o e = ap (λ (b : Bool). cond {A = Result (Unit {0}) MapFault} b (Ok tt) (Err Absent)) (holds_is k ∙ ap is_some e)

  -- what a `?` answers where no record has the key
  pub absent_is : (k : ℕ) (o : Option ℕ) (f : MapFault) (r : Result (Unit {0}) MapFault) → o ≡ place_of (area_pieces xs) k → ok_or o Absent ≡ Err f → IsErrAnd r (λ g. g ≡ f)
      → (place_of (area_pieces xs) k ≡ None) × (r ≡ held_answer (area_meaning xs) k)
  absent_is k None f r p e h =
      let y = err_from_is_err_and r h in
      (sym p, y.1 ∙ ap Err (y.2 ∙ (let q : f ≡ Absent = cc in q)) ∙ sym (held_is k None (sym p)))
  absent_is k (Some i) f r p e h = let z : ◌≡◌ {A = ℕ} 0 1 = cc in absurd (omega arith)

  pub fetched_none : (k : ℕ) (old : List ℕ) → place_of (area_pieces xs) k ≡ None → fetched (area_meaning xs) k old ≡ old
  fetched_none k old e = ap (λ (o : Option Piece). or_else (bytes_of o) old) (find_map_of (area_pieces xs) k ∙ find_none (area_pieces xs) k e)

  pub fetched_some : (k i h : ℕ) (old : List ℕ) → h ≡ length (area_pieces xs) → place_of (area_pieces xs) k ≡ Some i → fetched (area_meaning xs) k old ≡ drop lead_length (record_at xs i)
  fetched_some k i h old eh e =
      let l = place_within (area_pieces xs) k i e in
      let p : drop i (area_pieces xs) ≡ piece_in (record_at xs i) ∷ drop (i + 1) (pieces h xs) = ap (drop i) (sym (kept_pieces xs h eh)) ∙ pieces_from i h xs (omega arith) in
      ap (λ (o : Option Piece). or_else (bytes_of o) old) (find_map_of (area_pieces xs) k ∙ find_place (area_pieces xs) (drop (i + 1) (pieces h xs)) k i (piece_in (record_at xs i)) e p)

  pub from_small : (k n : ℕ) → Some n ≡ key_from (area_meaning xs) k → n < 8 * stripes
  from_small k n e = least_small (map_of (area_pieces xs)) k n (area_sound xs).whole (sym e)

-- the two tests of a store
pub cond_two : {A : Type 0} {b c p q : Bool} (x y z : A) → b ≡ p → c ≡ q → cond b x (cond c y z) ≡ cond p x (cond q y z)
cond_two x y z e f = cc

-- a record written for a key
pub held_record_lem : (client stripe : ℕ) (bytes : List ℕ) → client < 8 → stripe < 2 ^ 32 → length bytes ≡ fragment_length
    → (length (held_record client stripe bytes) ≡ record_length) × (is_held (held_record client stripe bytes) ≡ true) × (piece_in (held_record client stripe bytes) ≡ (key_number client stripe, bytes))
held_record_lem client stripe bytes lc ls lb =
    let d : stripe / 256 / 256 ≡ stripe / 65536 = div-div-eq-div-mul stripe 256 256 in
    let t : stripe / 65536 / 256 ≡ stripe / 16777216 = div-div-eq-div-mul stripe 65536 256 in
    let u : stripe / 16777216 % 256 ≡ stripe / 16777216 = mod-eq_of_lt (omega arith) in
    let e : stripe_in (held_record client stripe bytes) ≡ stripe = omega arith in
    (omega arith, grind (arith, nat_tests), ap (λ (s : ℕ). (key_number client s, bytes)) e)

pub meaning_of_lem : (xs : List ℕ) (n : ℕ) (ps : List Piece) → area_places xs ≡ n → area_pieces xs ≡ ps → area_meaning xs ≡ record { places = n; held = map_of ps }
meaning_of_lem xs n ps p q = cc

-- the places, the pieces and the free places of an area
pub ruleset area_counts = (area_small, area_room, area_few, free_is, holds_is)

module _ (xs r : List ℕ) (k : ℕ) (bytes : List ℕ) (lr : length r ≡ record_length) (hr : is_held r ≡ true) (pr : piece_in r ≡ (k, bytes)) where
  -- an accepted store
  store_pieces : holds (area_meaning xs) k ≡ false → length (area_pieces xs) < area_places xs
      → (area_pieces (with_record xs (length (area_pieces xs)) r) ≡ area_pieces xs ++ (k, bytes) ∷ []) × (area_places (with_record xs (length (area_pieces xs)) r) ≡ area_places xs)
  store_pieces h l =
      let a = area_store xs r (length (area_pieces xs)) refl l lr hr (ap (λ (p : Piece). has piece_key (area_pieces xs) (piece_key p)) pr ∙ sym (has_is xs k) ∙ h) in
      (a.0 ∙ ap (λ (p : Piece). area_pieces xs ++ p ∷ []) pr, a.1)

  pub store_counts : holds (area_meaning xs) k ≡ false → length (area_pieces xs) < area_places xs
      → (area_places (with_record xs (length (area_pieces xs)) r) ≡ area_places xs) × (length (area_pieces (with_record xs (length (area_pieces xs)) r)) ≡ length (area_pieces xs) + 1)
  store_counts h l = let a = store_pieces h l in (a.1, ap length a.0 ∙ length_push (area_pieces xs) (k, bytes))

  store_either : (b c : Bool) → holds (area_meaning xs) k ≡ b → eqb (free (area_meaning xs)) 0 ≡ c
      → area_meaning (cond b xs (cond c xs (with_record xs (length (area_pieces xs)) r))) ≡ cond b (area_meaning xs) (cond c (area_meaning xs) (holding (area_meaning xs) (put piece_key (map_of (area_pieces xs)) (k, bytes))))
  store_either true c h f = refl
  store_either false true h f = refl
  store_either false false h f =
      let e = free_is xs in
      let n = eqb-false (free (area_meaning xs)) 0 f in
      let a = store_pieces h (grind arith) in
      meaning_of_lem (with_record xs (length (area_pieces xs)) r) (area_places xs) (area_pieces xs ++ (k, bytes) ∷ []) a.1 a.0
      ∙ ap (λ (m : List Piece). record { places = area_places xs; held = m }) (map_of_push (area_pieces xs) (k, bytes) (sym (has_is xs k) ∙ h))

  pub store_means : area_meaning (stored xs k r) ≡ store_after (area_meaning xs) k bytes
  store_means = store_either (holds (area_meaning xs) k) (eqb (free (area_meaning xs)) 0) refl refl

module _ (xs : List ℕ) where
  delete_either : (k : ℕ) (o : Option ℕ) → place_of (area_pieces xs) k ≡ o → area_meaning (deleted_at xs o) ≡ delete_after (area_meaning xs) k
  delete_either k None e =
      ap (λ (m : List Piece). record { places = area_places xs; held = m }) (sym (without_absent piece_key (map_of (area_pieces xs)) k (holds_is xs k ∙ ap is_some e)))
  delete_either k (Some i) e =
      let a = area_delete xs (length (area_pieces xs)) i k refl e in
      meaning_of_lem (without_record xs i (length (area_pieces xs))) (area_places xs) (without piece_key (area_pieces xs) k) a.1 a.0
      ∙ ap (λ (m : List Piece). record { places = area_places xs; held = m }) (map_of_without (area_pieces xs) k (area_kept xs).alone)

  pub delete_means : (k : ℕ) → area_meaning (deleted xs k) ≡ delete_after (area_meaning xs) k
  delete_means k = delete_either k (place_of (area_pieces xs) k) refl

  -- an accepted delete
  pub delete_counts : (k i : ℕ) → place_of (area_pieces xs) k ≡ Some i
      → (area_places (without_record xs i (length (area_pieces xs))) ≡ area_places xs) × (length (area_pieces (without_record xs i (length (area_pieces xs)))) + 1 ≡ length (area_pieces xs))
  delete_counts k i e =
      let a = area_delete xs (length (area_pieces xs)) i k refl e in
      (a.1, ap (λ (ps : List Piece). length ps + 1) a.0 ∙ length_without_held piece_key (area_pieces xs) k (has_place (area_pieces xs) k ∙ ap is_some e))

  pub wipe_means : area_meaning (wiped xs) ≡ wipe_after (area_meaning xs)
  wipe_means = let a = area_wipe xs in meaning_of_lem (wiped xs) (area_places xs) [] a.1 a.0
