-- The laws of areas, and the examples.
use Rattle.std.proofs.Common.{◌≡◌, ℕ, ◌+◌, ◌-◌, ◌*◌, ◌<◌, ◌≤◌, false, cond, eqb, List, [], ◌++◌, map, length, take, drop, replicate, Some, None, Option, sym, refl, ap, ◌∙◌, arith}
use Rattle.std.proofs.lemmas.Bool.{cond-false, cond_both, eqb-false}
use Rattle.std.proofs.lemmas.Slice.{drop-append-drop}
use Rattle.std.proofs.lemmas.List.{append_assoc, length-append, length-take-le, length-drop, length-replicate}
use Rattle.geometry.specs.Keys.{key_number}
use Rattle.server.specs.Meaning.{Piece, Meaning, holds, free}
use Rattle.log_server.specs.Records.{record_length, free_record, held_record, piece_in}
use Rattle.log_server.specs.Area.{records_of, front, whole_records, in_order, area_pieces, area_places, area_meaning}
use Rattle.log_server.specs.Calls.{with_record, without_record, deleted_at}
use Rattle.log_server.specs.Walks.{place_of}
use Rattle.log_server.specs.Laws.{nothing, Reopens, Untouched, RestStays, AreaLaws}
use Rattle.log_server.specs.Examples.{Examples}
use Rattle.log_server.proofs.Places.{place_within}
use Rattle.log_server.proofs.Areas.{area_kept}
use Rattle.log_server.proofs.Meanings.{meaning_of_lem, cond_two, free_is, held_record_lem, store_means, delete_means, wipe_means}

reopens : (xs : List ℕ) → Reopens xs
reopens xs =
    record {
      store = λ c s f lc ls lf.
          let w = held_record_lem c s f lc ls lf in
          store_means xs (held_record c s f) (key_number c s) f w.0 w.1 w.2;
      delete = delete_means xs;
      wipe = wipe_means xs;
    }

-- ---- bytes after the records

past_record : (xs r : List ℕ) (h n : ℕ) → h < n → record_length * n ≤ length xs → length r ≡ record_length → drop (record_length * n) (with_record xs h r) ≡ drop (record_length * n) xs
past_record xs r h n l room lr =
    let a = length-take-le (record_length * h) xs (omega arith) in
    let b = length-append (take (record_length * h) xs) r in
    ap (drop (record_length * n)) (sym (append_assoc (take (record_length * h) xs) r (drop (record_length * (h + 1)) xs)))
    ∙ drop-append-drop (record_length * (h + 1)) xs (take (record_length * h) xs ++ r) (record_length * n) (omega arith) (omega arith)

past_gap : (xs : List ℕ) (i h n : ℕ) → i < h → h ≤ n → record_length * n ≤ length xs → drop (record_length * n) (without_record xs i h) ≡ drop (record_length * n) xs
past_gap xs i h n l m room =
    let us : List ℕ = take (record_length * i) xs in
    let vs : List ℕ = take (record_length * (h - 1 - i)) (drop (record_length * (i + 1)) xs) in
    let a = length-take-le (record_length * i) xs (omega arith) in
    let b = length-drop (record_length * (i + 1)) xs in
    let c = length-take-le (record_length * (h - 1 - i)) (drop (record_length * (i + 1)) xs) (omega arith) in
    let d = length-append us (vs ++ free_record) in
    let e = length-append vs free_record in
    let f : length free_record ≡ record_length = length-replicate {A = ℕ} record_length 0 in
    ap (drop (record_length * n)) (ap (λ (t : List ℕ). us ++ t) (sym (append_assoc vs free_record (drop (record_length * h) xs))) ∙ sym (append_assoc us (vs ++ free_record) (drop (record_length * h) xs)))
    ∙ drop-append-drop (record_length * h) xs (us ++ (vs ++ free_record)) (record_length * n) (omega arith) (omega arith)

delete_rest : (xs : List ℕ) (q : ℕ) (o : Option ℕ) → place_of (area_pieces xs) q ≡ o → drop (record_length * area_places xs) (deleted_at xs o) ≡ drop (record_length * area_places xs) xs
delete_rest xs q None e = refl
delete_rest xs q (Some i) e = let k = area_kept xs in past_gap xs i (length (area_pieces xs)) (area_places xs) (place_within (area_pieces xs) q i e) k.few k.room

rest_stays : (xs : List ℕ) → RestStays xs
rest_stays xs =
    let k = area_kept xs in
    let n : ℕ = area_places xs in
    let h : ℕ = length (area_pieces xs) in
    let Same : List ℕ → Type 0 = λ t. drop (record_length * n) t ≡ drop (record_length * n) xs in
    record {
      store = λ q r lr.
          cond_both (holds (area_meaning xs) q) xs (cond (eqb (free (area_meaning xs)) 0) xs (with_record xs h r)) Same (λ _. refl)
          (λ _. cond_both (eqb (free (area_meaning xs)) 0) xs (with_record xs h r) Same (λ _. refl)
          (λ f. let e = free_is xs in let g = eqb-false (free (area_meaning xs)) 0 f in past_record xs r h n (omega (arith, g)) k.room lr));
      delete = λ q. delete_rest xs q (place_of (area_pieces xs) q) refl;
      wipe = drop-append-drop (record_length * n) xs (replicate (record_length * n) 0) (record_length * n) (omega arith) (length-replicate {A = ℕ} (record_length * n) 0);
    }

-- ---- bytes that are not in order

out_of_order : (xs : List ℕ) → in_order (records_of xs) ≡ false → (area_meaning xs ≡ nothing) × Untouched xs
unfolding area_pieces area_places
out_of_order xs e =
    let p : area_pieces xs ≡ [] = cond-false (in_order (records_of xs)) (map piece_in (front (records_of xs))) [] e in
    let w : area_places xs ≡ 0 = cond-false (in_order (records_of xs)) (whole_records xs) 0 e in
    let m = meaning_of_lem xs 0 [] w p in (
      m,
      record {
        store = λ k r. cond_two xs xs (with_record xs (length (area_pieces xs)) r) (ap (λ (t : Meaning). holds t k) m) (ap (λ (t : Meaning). eqb (free t) 0) m);
        delete = λ k. ap (λ (ps : List Piece). deleted_at xs (place_of ps k)) p;
        wipe = ap (λ (n : ℕ). replicate (record_length * n) 0 ++ drop (record_length * n) xs) w;
      },
    )

pub area_laws : AreaLaws
area_laws = record { reopens = reopens; rest_stays = rest_stays; out_of_order = out_of_order }

pub examples : Examples
unfolding area_pieces area_places
examples = record { free = refl; held = refl; closed = refl; client = refl; again = refl; gap = refl; short = refl }
