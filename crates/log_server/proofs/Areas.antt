-- What an area means, from its records.
use Rattle.std.proofs.Common.{◌≡◌, ℕ, zero, suc, ◌+◌, ◌-◌, ◌*◌, ◌/◌, ◌%◌, ◌<◌, ◌≤◌, min, Bool, true, false, cond, ◌&&◌, List, [], ◌∷◌, ◌++◌, map, length, take, drop, replicate, Some, None, Option, sym, subst, refl, ap, ◌∙◌, ⊎_elim, arith, MatchOption, MutBor}
use Rattle.std.proofs.lemmas.Bool.{cases_lt, and_parts, and_from, cond-true, cond-false}
use Rattle.std.proofs.lemmas.List.{take_at, drop_at, length-map, length-append, map-append, length-take-le, length-drop, length-replicate, append_assoc, take_all, take-append-drop, drop-drop, replicate-append-replicate}
use Rattle.std.specs.List.{list_all}
use Rattle.ordered.specs.Maps.{has, without}
use Rattle.server.specs.Meaning.{Piece, piece_key}
use Rattle.geometry.specs.Bytes.{zeros}
use Rattle.geometry.proofs.Parts.{zeros_are}
use Rattle.log_server.specs.Records.{record_length, records, records_in, record_key, record_at, free_record, piece_in, is_held}
use Rattle.log_server.specs.Area.{most_records, whole_records, records_of, pieces, pieces_in, front, rest, apart, in_order, area_pieces, area_places}
use Rattle.log_server.specs.Calls.{with_record, without_record, wiped}
use Rattle.log_server.specs.Walks.{place_of}
use Rattle.log_server.proofs.Cuts.{length_records, length_pieces, records_in_take, pieces_in_take, records_add, records_append, records_join, records_head, records_take, records_cons}
use Rattle.log_server.proofs.Places.{place_within, without_at}
use Rattle.log_server.proofs.Pieces.{apart_push, apart_without}
use Rattle.log_server.proofs.Fronts.{front_rest, front_held, front_of, rest_of, all_join, all_parts, zeros_records}

-- lists cut at one place
same_parts : {X : Type 0} (us vs ws zs : List X) → length us ≡ length ws → us ++ vs ≡ ws ++ zs → (us ≡ ws) × (vs ≡ zs)
same_parts us vs ws zs l e =
    let n : ℕ = length us in (
      sym (take_at us vs n refl) ∙ ap (take n) e ∙ take_at ws zs n (sym l),
      sym (drop_at us vs n refl) ∙ ap (drop n) e ∙ drop_at ws zs n (sym l),
    )

-- the first h of n records are held, and the record after them is not
pub parted : (n h : ℕ) (xs : List ℕ) → length (front (records n xs)) ≡ h
    → (h ≤ n) × (records h xs ≡ front (records n xs)) × (records (n - h) (drop (record_length * h) xs) ≡ rest (records n xs))
parted n h xs e =
    let fr : List (List ℕ) = front (records n xs) in
    let rt : List (List ℕ) = rest (records n xs) in
    let q = front_rest (records n xs) in
    let l : n ≡ length fr + length rt = sym (length_records n xs) ∙ ap length q ∙ length-append fr rt in
    let le : h ≤ n = omega arith in
    let s = same_parts (records h xs) (records (n - h) (drop (record_length * h) xs)) fr rt (length_records h xs ∙ sym e) (sym (records_add h (n - h) n xs (omega arith)) ∙ q) in
    (le, s.0, s.1)

-- an area whose first records are held, with keys of their own, and whose other records are free
pub area_from : (xs : List ℕ) (n : ℕ) (hs fs : List (List ℕ)) → whole_records xs ≡ n → records n xs ≡ hs ++ fs
    → list_all is_held hs ≡ true → list_all zeros fs ≡ true → apart (map piece_in hs) ≡ true
    → (area_pieces xs ≡ map piece_in hs) × (area_places xs ≡ n)
unfolding area_pieces area_places
area_from xs n hs fs w e h z a =
    let rs : records_of xs ≡ hs ++ fs = ap (λ (k : ℕ). records k xs) w ∙ e in
    let f : front (records_of xs) ≡ hs = ap front rs ∙ front_of hs fs h z in
    let t : rest (records_of xs) ≡ fs = ap rest rs ∙ rest_of hs fs h z in
    let o : in_order (records_of xs) ≡ true = and_from (list_all zeros (rest (records_of xs))) (apart (map piece_in (front (records_of xs)))) (ap (list_all zeros) t ∙ z) (ap (λ (l : List (List ℕ)). apart (map piece_in l)) f ∙ a) in (
      cond-true (in_order (records_of xs)) (map piece_in (front (records_of xs))) [] o ∙ ap (map piece_in) f,
      cond-true (in_order (records_of xs)) (whole_records xs) 0 o ∙ w,
    )

-- what is true of every area
pub record Kept (xs : List ℕ) : Type 0 where
  pub small : area_places xs ≤ 4294967295
  pub room : record_length * area_places xs ≤ length xs
  pub few : length (area_pieces xs) ≤ area_places xs
  pub are : area_pieces xs ≡ pieces (length (area_pieces xs)) xs
  pub alone : apart (area_pieces xs) ≡ true

kept_either : (xs : List ℕ) (b : Bool) → in_order (records_of xs) ≡ b → Kept xs
unfolding area_pieces area_places
kept_either xs true e =
    let rs : List (List ℕ) = records_of xs in
    let q : area_pieces xs ≡ map piece_in (front rs) = cond-true (in_order rs) (map piece_in (front rs)) [] e in
    let w : area_places xs ≡ whole_records xs = cond-true (in_order rs) (whole_records xs) 0 e in
    let h : length (area_pieces xs) ≡ length (front rs) = ap length q ∙ length-map (front rs) piece_in in
    let f = parted (whole_records xs) (length (front rs)) xs refl in
    record {
      small = omega arith;
      room = omega arith;
      few = omega arith;
      are = q ∙ ap (map piece_in) (sym f.1) ∙ ap (λ (k : ℕ). pieces k xs) (sym h);
      alone = ap apart q ∙ (and_parts (list_all zeros (rest rs)) (apart (map piece_in (front rs))) e).1;
    }
kept_either xs false e =
    let rs : List (List ℕ) = records_of xs in
    let q : area_pieces xs ≡ [] = cond-false (in_order rs) (map piece_in (front rs)) [] e in
    let w : area_places xs ≡ 0 = cond-false (in_order rs) (whole_records xs) 0 e in
    let h : length (area_pieces xs) ≡ 0 = ap length q in
    record {
      small = omega arith;
      room = omega arith;
      few = omega arith;
      are = q ∙ ap (λ (k : ℕ). pieces k xs) (sym h);
      alone = ap apart q;
    }

pub area_kept : (xs : List ℕ) → Kept xs
area_kept xs = kept_either xs (in_order (records_of xs)) refl

pub area_small : (xs : List ℕ) → area_places xs ≤ 4294967295
area_small xs = (area_kept xs).small

pub area_room : (xs : List ℕ) → record_length * area_places xs ≤ length xs
area_room xs = (area_kept xs).room

pub area_few : (xs : List ℕ) → length (area_pieces xs) ≤ area_places xs
area_few xs = (area_kept xs).few

pub kept_pieces : (xs : List ℕ) (h : ℕ) → h ≡ length (area_pieces xs) → pieces h xs ≡ area_pieces xs
kept_pieces xs h e = ap (λ (n : ℕ). pieces n xs) e ∙ sym (area_kept xs).are

-- ---- opening

-- the two tests that opening makes
pub order_is : (h : ℕ) (xs : List ℕ) → length xs % record_length ≡ 0 → h ≡ length (front (records_in xs))
    → in_order (records_in xs) ≡ (zeros (drop (record_length * h) xs) && apart (pieces_in (take (record_length * h) xs)))
order_is h xs whole e =
    let n : ℕ = length xs / record_length in
    let f = parted n h xs (sym e) in
    let ys : List ℕ = drop (record_length * h) xs in
    let l = length-drop (record_length * h) xs in
    let t : take (record_length * (n - h)) ys ≡ ys = take_all (record_length * (n - h)) ys (omega arith) in
    ap (λ (rs : List (List ℕ)). list_all zeros rs && apart (map piece_in (front (records n xs)))) (sym f.2)
    ∙ ap (λ (rs : List (List ℕ)). list_all zeros (records (n - h) ys) && apart (map piece_in rs)) (sym f.1)
    ∙ ap (λ (b : Bool). b && apart (pieces h xs)) (sym (zeros_records (n - h) ys) ∙ ap zeros t)
    ∙ ap (λ (ps : List Piece). zeros ys && apart ps) (sym (pieces_in_take h xs (omega arith)))

open_either : (xs : List ℕ) (b : Bool) (o : Option ℕ) (p : ℕ × ℕ) → in_order (records_of xs) ≡ b → o ≡ cond b (Some (length (front (records_of xs)))) None
    → MatchOption o (p ≡ (0, 0)) (λ h. p ≡ (whole_records xs, h)) → (p.0 ≡ area_places xs) × (p.1 ≡ length (area_pieces xs))
unfolding area_pieces area_places
open_either xs true None p e q m = let z : ◌≡◌ {A = ℕ} 0 1 = cc in absurd (omega arith)
open_either xs true (Some h) p e q m =
    let rs : List (List ℕ) = records_of xs in
    let f : h ≡ length (front rs) = cc in (
      ap (λ (t : ℕ × ℕ). t.0) m ∙ sym (cond-true (in_order rs) (whole_records xs) 0 e),
      ap (λ (t : ℕ × ℕ). t.1) m ∙ f ∙ sym (ap length (cond-true (in_order rs) (map piece_in (front rs)) [] e) ∙ length-map (front rs) piece_in),
    )
open_either xs false None p e q m =
    let rs : List (List ℕ) = records_of xs in (
      ap (λ (t : ℕ × ℕ). t.0) m ∙ sym (cond-false (in_order rs) (whole_records xs) 0 e),
      ap (λ (t : ℕ × ℕ). t.1) m ∙ sym (ap length (cond-false (in_order rs) (map piece_in (front rs)) [] e)),
    )
open_either xs false (Some h) p e q m = let z : ◌≡◌ {A = ℕ} 0 1 = cc in absurd (omega arith)

-- the places and the pieces of an area that was opened
pub open_counts : (xs : List ℕ) (n : ℕ) (o : Option ℕ) (p : ℕ × ℕ) → n ≡ whole_records xs
    → o ≡ cond (in_order (records_in (take (record_length * n) xs))) (Some (length (front (records_in (take (record_length * n) xs))))) None
    → MatchOption o (p ≡ (0, 0)) (λ h. p ≡ (n, h)) → (p.0 ≡ area_places xs) × (p.1 ≡ length (area_pieces xs))
open_counts xs n o p w e m =
    let r : records_in (take (record_length * n) xs) ≡ records_of xs = records_in_take n xs (omega arith) ∙ ap (λ (k : ℕ). records k xs) w in
    open_either xs (in_order (records_of xs)) o p refl (e ∙ ap (λ (rs : List (List ℕ)). cond (in_order rs) (Some (length (front rs))) None) r)
    (subst (λ (k : ℕ). MatchOption o (p ≡ (0, 0)) (λ h. p ≡ (k, h))) w m)

-- ---- what a call leaves

-- bytes that are written while they are out of their struct, said of what the struct held
pub written : (f : List ℕ → ℕ → List ℕ) (taken held : MutBor (List ℕ)) (left : List ℕ) (h : ℕ) → taken ≡ held → h ≡ length (area_pieces held.now) → left ≡ f taken.now h → left ≡ f held.now (length (area_pieces held.now))
written f taken held left h e p q = q ∙ ap (λ (b : MutBor (List ℕ)). f b.now h) e ∙ ap (f held.now) p

in_order_lem : (xs : List ℕ) (b : Bool) → in_order (records_of xs) ≡ b → 0 < area_places xs → b ≡ true
unfolding area_places
in_order_lem xs true e l = refl
in_order_lem xs false e l = let w : area_places xs ≡ 0 = cond-false (in_order (records_of xs)) (whole_records xs) 0 e in absurd (omega arith)

-- an area in order, with h records held
record Ordered (xs : List ℕ) (h : ℕ) : Type 0 where
  whole : area_places xs ≡ whole_records xs
  held : list_all is_held (records h xs) ≡ true
  free : list_all zeros (records (whole_records xs - h) (drop (record_length * h) xs)) ≡ true

ordered : (xs : List ℕ) (h : ℕ) → 0 < area_places xs → length (area_pieces xs) ≡ h → Ordered xs h
unfolding area_pieces area_places
ordered xs h l e =
    let rs : List (List ℕ) = records_of xs in
    let o : in_order rs ≡ true = in_order_lem xs (in_order rs) refl l in
    let q : area_pieces xs ≡ map piece_in (front rs) = cond-true (in_order rs) (map piece_in (front rs)) [] o in
    let f = parted (whole_records xs) h xs (sym (length-map (front rs) piece_in) ∙ sym (ap length q) ∙ e) in
    record {
      whole = cond-true (in_order rs) (whole_records xs) 0 o;
      held = ap (list_all is_held) f.1 ∙ front_held rs;
      free = ap (list_all zeros) f.2 ∙ (and_parts (list_all zeros (rest rs)) (apart (map piece_in (front rs))) o).0;
    }

whole_same : (xs ys : List ℕ) → length ys ≡ length xs → whole_records ys ≡ whole_records xs
whole_same xs ys e = ap (λ (k : ℕ). min (k / record_length) most_records) e

-- the next record, held under a key of its own
pub area_store : (xs r : List ℕ) (h : ℕ) → length (area_pieces xs) ≡ h → h < area_places xs → length r ≡ record_length → is_held r ≡ true → has piece_key (area_pieces xs) (record_key r) ≡ false
    → (area_pieces (with_record xs h r) ≡ area_pieces xs ++ piece_in r ∷ []) × (area_places (with_record xs h r) ≡ area_places xs)
area_store xs r h eh l lr hr new =
    let k = area_kept xs in
    let o = ordered xs h (omega arith) eh in
    let n : ℕ = whole_records xs in
    let m : ℕ = n - h - 1 in
    let room : record_length * (h + 1) ≤ length xs = omega arith in
    let back : List ℕ = drop (record_length * (h + 1)) xs in
    let la : length (take (record_length * h) xs) ≡ record_length * h = length-take-le (record_length * h) xs (omega arith) in
    let lb : length (with_record xs h r) ≡ length xs = simp (length-append, length-drop) (omega arith) in
    let are : pieces h xs ≡ area_pieces xs = kept_pieces xs h (sym eh) in
    let hs : List (List ℕ) = records h xs ++ r ∷ [] in
    let ps : map piece_in hs ≡ area_pieces xs ++ piece_in r ∷ [] = map-append piece_in (records h xs) (r ∷ []) ∙ ap (λ (t : List Piece). t ++ piece_in r ∷ []) are in
    let cut : records n (with_record xs h r) ≡ hs ++ records m back =
    records_join h (n - h) n (take (record_length * h) xs) (r ++ back) (omega arith) la
    ∙ ap (λ (t : List (List ℕ)). t ++ records (n - h) (r ++ back)) (records_take h xs (omega arith))
    ∙ ap (λ (t : List (List ℕ)). records h xs ++ t) (records_cons m (n - h) r back (omega arith) lr)
    ∙ sym (append_assoc (records h xs) (r ∷ []) (records m back)) in
    let fr = sym (ap (list_all zeros) (records_head h m (n - h) xs (omega arith))) ∙ o.free in
    let a = area_from (with_record xs h r) n hs (records m back) (whole_same xs (with_record xs h r) lb) cut
    (all_join is_held (records h xs) (r ∷ []) o.held (and_from (is_held r) true hr refl))
    (and_parts (zeros (record_at xs h)) (list_all zeros (records m back)) fr).1
    (ap apart ps ∙ apart_push (area_pieces xs) (piece_in r) new k.alone) in
    (a.0 ∙ ps, a.1 ∙ sym o.whole)

-- record i gone, and those after it moved down
pub area_delete : (xs : List ℕ) (h i q : ℕ) → length (area_pieces xs) ≡ h → place_of (area_pieces xs) q ≡ Some i
    → (area_pieces (without_record xs i h) ≡ without piece_key (area_pieces xs) q) × (area_places (without_record xs i h) ≡ area_places xs)
area_delete xs h i q eh found =
    let k = area_kept xs in
    let l = place_within (area_pieces xs) q i found in
    let o = ordered xs h (omega arith) eh in
    let n : ℕ = whole_records xs in
    let m : ℕ = h - 1 - i in
    let ys : List ℕ = without_record xs i h in
    let later : List ℕ = drop (record_length * (i + 1)) xs in
    let back : List ℕ = drop (record_length * h) xs in
    let la : length (take (record_length * i) xs) ≡ record_length * i = length-take-le (record_length * i) xs (omega arith) in
    let ll : length later ≡ length xs - record_length * (i + 1) = length-drop (record_length * (i + 1)) xs in
    let lm : length (take (record_length * m) later) ≡ record_length * m = length-take-le (record_length * m) later (omega arith) in
    let lf : length free_record ≡ record_length = length-replicate {A = ℕ} record_length 0 in
    let lb : length ys ≡ length xs = simp (length-append, length-drop) (omega arith) in
    let hs : List (List ℕ) = records i xs ++ records m later in
    let fs : List (List ℕ) = free_record ∷ records (n - h) back in
    let cut : records n ys ≡ hs ++ fs =
    records_join i (n - i) n (take (record_length * i) xs) (take (record_length * m) later ++ (free_record ++ back)) (omega arith) la
    ∙ ap (λ (t : List (List ℕ)). t ++ records (n - i) (take (record_length * m) later ++ (free_record ++ back))) (records_take i xs (omega arith))
    ∙ ap (λ (t : List (List ℕ)). records i xs ++ t)
    (records_join m (n - h + 1) (n - i) (take (record_length * m) later) (free_record ++ back) (omega arith) lm
    ∙ ap (λ (t : List (List ℕ)). t ++ records (n - h + 1) (free_record ++ back)) (records_take m later (omega arith))
    ∙ ap (λ (t : List (List ℕ)). records m later ++ t) (records_cons (n - h) (n - h + 1) free_record back (omega arith) lf))
    ∙ sym (append_assoc (records i xs) (records m later) fs) in
    let whole : records h xs ≡ records i xs ++ (record_at xs i ∷ records m later) =
    records_add i (suc m) h xs (omega arith) ∙ ap (λ (t : List (List ℕ)). records i xs ++ t) (records_head i m (suc m) xs refl) in
    let held = all_parts is_held (records i xs) (record_at xs i ∷ records m later) (sym (ap (list_all is_held) whole) ∙ o.held) in
    let are : area_pieces xs ≡ pieces i xs ++ (piece_in (record_at xs i) ∷ pieces m later) =
    sym (kept_pieces xs h (sym eh)) ∙ ap (map piece_in) whole ∙ map-append piece_in (records i xs) (record_at xs i ∷ records m later) in
    let ps : map piece_in hs ≡ without piece_key (area_pieces xs) q =
    map-append piece_in (records i xs) (records m later)
    ∙ sym (without_at (pieces i xs) (pieces m later) (piece_in (record_at xs i)) q i (length_pieces i xs) (sym (ap (λ (t : List Piece). place_of t q) are) ∙ found))
    ∙ sym (ap (λ (t : List Piece). without piece_key t q) are) in
    let a = area_from ys n hs fs (whole_same xs ys lb) cut
    (all_join is_held (records i xs) (records m later) held.0 (and_parts (is_held (record_at xs i)) (list_all is_held (records m later)) held.1).1)
    (and_from (zeros free_record) (list_all zeros (records (n - h) back)) refl o.free)
    (ap apart ps ∙ apart_without (area_pieces xs) q k.alone) in
    (a.0 ∙ ps, a.1 ∙ sym o.whole)

-- free records are zeros already
free_bytes : (xs : List ℕ) (h : ℕ) → h ≡ length (area_pieces xs)
    → drop (record_length * h) xs ≡ replicate (record_length * area_places xs - record_length * h) 0 ++ drop (record_length * area_places xs) xs
free_bytes xs h e =
    let k = area_kept xs in
    let n : ℕ = area_places xs in
    let m : ℕ = record_length * n - record_length * h in
    let back : List ℕ = drop (record_length * h) xs in
    ⊎_elim
    (λ l.
    let o = ordered xs h l (sym e) in
    let a : m ≡ record_length * (whole_records xs - h) = omega arith in
    let b : record_length * h + m ≡ record_length * n = omega arith in
    let z : zeros (take m back) ≡ true = ap (λ (i : ℕ). zeros (take i back)) a ∙ zeros_records (whole_records xs - h) back ∙ o.free in
    let d = length-drop (record_length * h) xs in
    let t : take m back ≡ replicate m 0 = zeros_are m (take m back) (length-take-le m back (omega arith)) z in
    sym (take-append-drop m back) ∙ ap (λ (ys : List ℕ). ys ++ drop m back) t
    ∙ ap (λ (ys : List ℕ). replicate m 0 ++ ys) (drop-drop m (record_length * h) xs ∙ ap (λ (i : ℕ). drop i xs) b))
    (λ l.
    let z : h ≡ n = omega arith in
    let d : m ≡ 0 = omega arith in
    ap (λ (i : ℕ). drop (record_length * i) xs) z ∙ sym (ap (λ (i : ℕ). replicate i 0 ++ drop (record_length * n) xs) d))
    (cases_lt 0 n)

-- so that zeroing the held ones is enough
pub cleared : (xs : List ℕ) (h : ℕ) → h ≡ length (area_pieces xs) → replicate (record_length * h) 0 ++ drop (record_length * h) xs ≡ wiped xs
cleared xs h e =
    let k = area_kept xs in
    let n : ℕ = area_places xs in
    let m : ℕ = record_length * n - record_length * h in
    let rest : List ℕ = drop (record_length * n) xs in
    let a : record_length * h + m ≡ record_length * n = omega arith in
    ap (λ (ys : List ℕ). replicate (record_length * h) 0 ++ ys) (free_bytes xs h e)
    ∙ sym (append_assoc (replicate (record_length * h) 0) (replicate m 0) rest)
    ∙ ap (λ (ys : List ℕ). ys ++ rest) (replicate-append-replicate {A = ℕ} (record_length * h) m 0 ∙ ap (λ (i : ℕ). replicate i 0) a)

zeros_replicate : (n : ℕ) → zeros (replicate n 0) ≡ true
zeros_replicate zero = refl
zeros_replicate (suc n) = zeros_replicate n

wipe_either : (xs : List ℕ) (b : Bool) → in_order (records_of xs) ≡ b → (area_pieces (wiped xs) ≡ []) × (area_places (wiped xs) ≡ area_places xs)
unfolding area_pieces area_places
wipe_either xs true e =
    let k = area_kept xs in
    let n : ℕ = area_places xs in
    let w : area_places xs ≡ whole_records xs = cond-true (in_order (records_of xs)) (whole_records xs) 0 e in
    let z : List ℕ = replicate (record_length * n) 0 in
    let lz : length z ≡ record_length * n = length-replicate {A = ℕ} (record_length * n) 0 in
    let l : length (wiped xs) ≡ length xs = simp (length-append, length-drop) (omega (arith, k.room)) in
    let free : list_all zeros (records n (wiped xs)) ≡ true =
    ap (list_all zeros) (records_append n z (drop (record_length * n) xs) (omega arith))
    ∙ sym (zeros_records n z) ∙ ap zeros (take_all (record_length * n) z (omega arith)) ∙ zeros_replicate (record_length * n) in
    area_from (wiped xs) n [] (records n (wiped xs)) (whole_same xs (wiped xs) l ∙ sym w) refl refl free refl
wipe_either xs false e =
    let q : area_pieces xs ≡ [] = cond-false (in_order (records_of xs)) (map piece_in (front (records_of xs))) [] e in
    let w : area_places xs ≡ 0 = cond-false (in_order (records_of xs)) (whole_records xs) 0 e in
    let same : wiped xs ≡ xs = ap (λ (n : ℕ). replicate (record_length * n) 0 ++ drop (record_length * n) xs) w in
    (ap area_pieces same ∙ q, ap area_places same)

pub area_wipe : (xs : List ℕ) → (area_pieces (wiped xs) ≡ []) × (area_places (wiped xs) ≡ area_places xs)
area_wipe xs = wipe_either xs (in_order (records_of xs)) refl
