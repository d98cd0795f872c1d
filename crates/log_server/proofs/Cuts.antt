-- Areas cut into records.
use Rattle.std.proofs.Common.{◌≡◌, ℕ, zero, suc, ◌+◌, ◌-◌, ◌*◌, ◌/◌, ◌<◌, ◌≤◌, List, [], ◌∷◌, ◌++◌, map, length, get_or, take, drop, sym, refl, ap, ◌∙◌, arith}
use Rattle.std.proofs.lemmas.List.{get_or-map, take_more, drop_more, drop-drop, drop_at, take_at, take-append-drop, length-take-le, drop-map, take-append-le, drop-append-le, length-drop, length-map, take-map}
use Rattle.std.specs.Simd.{first_chunks}
use Rattle.log_server.specs.Records.{record_length, records, records_in, record_at, piece_in}
use Rattle.log_server.specs.Area.{pieces, pieces_in}
use Rattle.server.specs.Meaning.{Piece}

pub length_records : (n : ℕ) (xs : List ℕ) → length (records n xs) ≡ n
length_records zero xs = refl
length_records (suc n) xs = ap suc (length_records n (drop record_length xs))

-- records are what bytes are as arrays
pub chunks_are : (n : ℕ) (xs : List ℕ) → first_chunks record_length n xs ≡ records n xs
chunks_are zero xs = refl
chunks_are (suc n) xs = ap (λ (t : List (List ℕ)). take record_length xs ∷ t) (chunks_are n (drop record_length xs))

pub length_pieces : (n : ℕ) (xs : List ℕ) → length (pieces n xs) ≡ n
length_pieces n xs = length-map (records n xs) piece_in ∙ length_records n xs

-- the first a records, and b after them
pub records_add : (a b c : ℕ) (xs : List ℕ) → a + b ≡ c → records c xs ≡ records a xs ++ records b (drop (record_length * a) xs)
records_add zero b c xs e = ap (λ (k : ℕ). records k xs) (let q : c ≡ b = omega arith in q)
records_add (suc a) b c xs e =
    let q : c ≡ suc (a + b) = omega arith in
    let d : record_length + record_length * a ≡ record_length * suc a = omega arith in
    ap (λ (k : ℕ). records k xs) q
    ∙ ap (λ (t : List (List ℕ)). take record_length xs ∷ t)
    (records_add a b (a + b) (drop record_length xs) refl
    ∙ ap (λ (t : List ℕ). records a (drop record_length xs) ++ records b t) (drop-drop (record_length * a) record_length xs ∙ ap (λ (k : ℕ). drop k xs) d))

-- what lies after the records does not matter
pub records_append : (a : ℕ) (xs ys : List ℕ) → record_length * a ≤ length xs → records a (xs ++ ys) ≡ records a xs
records_append zero xs ys h = refl
records_append (suc a) xs ys h =
    let l : record_length ≤ length xs = omega arith in
    let m : record_length * a ≤ length (drop record_length xs) = simp length-drop (omega arith) in
    ap (λ (t : List ℕ). t ∷ records a (drop record_length (xs ++ ys))) (take-append-le record_length xs ys l)
    ∙ ap (λ (t : List (List ℕ)). take record_length xs ∷ t) (ap (records a) (drop-append-le record_length xs ys l) ∙ records_append a (drop record_length xs) ys m)

-- whole records, and more after them
pub records_join : (a b c : ℕ) (xs ys : List ℕ) → a + b ≡ c → length xs ≡ record_length * a → records c (xs ++ ys) ≡ records a xs ++ records b ys
records_join a b c xs ys e l =
    records_add a b c (xs ++ ys) e
    ∙ ap (λ (t : List (List ℕ)). t ++ records b (drop (record_length * a) (xs ++ ys))) (records_append a xs ys (omega arith))
    ∙ ap (λ (t : List ℕ). records a xs ++ records b t) (drop_at xs ys (record_length * a) l)

-- record i, and m after it
pub records_head : (i m n : ℕ) (xs : List ℕ) → suc m ≡ n → records n (drop (record_length * i) xs) ≡ record_at xs i ∷ records m (drop (record_length * (i + 1)) xs)
records_head i m n xs e =
    let d : record_length * i + record_length ≡ record_length * (i + 1) = omega arith in
    ap (λ (k : ℕ). records k (drop (record_length * i) xs)) (sym e)
    ∙ ap (λ (t : List ℕ). record_at xs i ∷ records m t) (drop-drop record_length (record_length * i) xs ∙ ap (λ (k : ℕ). drop k xs) d)

-- the records before a cut
pub records_take : (a : ℕ) (xs : List ℕ) → record_length * a ≤ length xs → records a (take (record_length * a) xs) ≡ records a xs
records_take a xs l =
    let e = length-take-le (record_length * a) xs l in
    sym (records_append a (take (record_length * a) xs) (drop (record_length * a) xs) (omega arith)) ∙ ap (records a) (take-append-drop (record_length * a) xs)

-- one record, and more after it
pub records_cons : (m n : ℕ) (r ys : List ℕ) → suc m ≡ n → length r ≡ record_length → records n (r ++ ys) ≡ r ∷ records m ys
records_cons m n r ys e l =
    ap (λ (k : ℕ). records k (r ++ ys)) (sym e)
    ∙ ap (λ (t : List ℕ). t ∷ records m (drop record_length (r ++ ys))) (take_at r ys record_length l)
    ∙ ap (λ (t : List ℕ). r ∷ records m t) (drop_at r ys record_length l)

-- record i, and those after it
pub records_from : (i n : ℕ) (xs : List ℕ) → i < n → drop i (records n xs) ≡ record_at xs i ∷ drop (i + 1) (records n xs)
records_from i zero xs l = absurd (omega arith)
records_from zero (suc n) xs l = refl
records_from (suc i) (suc n) xs l =
    let ys : List ℕ = drop record_length xs in
    let d : record_length + record_length * i ≡ record_length * suc i = omega arith in
    let e : suc (i + 1) ≡ suc i + 1 = omega arith in
    records_from i n ys (omega arith)
    ∙ ap (λ (t : List ℕ). take record_length t ∷ drop (i + 1) (records n ys)) (drop-drop (record_length * i) record_length xs ∙ ap (λ (k : ℕ). drop k xs) d)
    ∙ ap (λ (k : ℕ). record_at xs (suc i) ∷ drop k (records (suc n) xs)) e

pub record_is : (i : ℕ) (xs d : List ℕ) → record_length * (i + 1) ≤ length xs → get_or (records_in xs) i d ≡ record_at xs i
record_is i xs d l =
    let c = length_records (length xs / record_length) xs in
    ap (λ (t : List (List ℕ)). get_or t 0 d) (sym (drop_more (records_in xs) i d (omega arith)) ∙ records_from i (length xs / record_length) xs (omega arith))

pub pieces_from : (i n : ℕ) (xs : List ℕ) → i < n → drop i (pieces n xs) ≡ piece_in (record_at xs i) ∷ drop (i + 1) (pieces n xs)
pieces_from i n xs l =
    drop-map piece_in i (records n xs) ∙ ap (map piece_in) (records_from i n xs l) ∙ ap (λ (t : List Piece). piece_in (record_at xs i) ∷ t) (sym (drop-map piece_in (i + 1) (records n xs)))

-- the first records of some
pub take_records : (i n : ℕ) (xs : List ℕ) → i ≤ n → take i (records n xs) ≡ records i xs
take_records i n xs l =
    let e : i + (n - i) ≡ n = omega arith in
    ap (take i) (records_add i (n - i) n xs e) ∙ take_at (records i xs) (records (n - i) (drop (record_length * i) xs)) i (length_records i xs)

pub records_in_take : (n : ℕ) (xs : List ℕ) → record_length * n ≤ length xs → records_in (take (record_length * n) xs) ≡ records n xs
records_in_take n xs l =
    let e = length-take-le (record_length * n) xs l in
    let q : length (take (record_length * n) xs) / record_length ≡ n = omega arith in
    ap (λ (k : ℕ). records k (take (record_length * n) xs)) q ∙ records_take n xs l

pub pieces_in_take : (n : ℕ) (xs : List ℕ) → record_length * n ≤ length xs → pieces_in (take (record_length * n) xs) ≡ pieces n xs
pieces_in_take n xs l = ap (map piece_in) (records_in_take n xs l)

-- the pieces before record i, by the bytes before it
pub pieces_before : (i : ℕ) (xs : List ℕ) → record_length * i ≤ length xs → pieces_in (take (record_length * i) xs) ≡ take i (pieces_in xs)
pieces_before i xs l =
    pieces_in_take i xs l ∙ ap (map piece_in) (sym (take_records i (length xs / record_length) xs (omega arith))) ∙ sym (take-map piece_in i (records_in xs))

-- one more record of those that a walk is over
pub records_next : (xs : List ℕ) (rs : List (List ℕ)) (i : ℕ) → rs ≡ records_in xs → i < length rs
    → (record_length * i ≤ length xs) × (take (i + 1) (pieces_in xs) ≡ take i (pieces_in xs) ++ piece_in (get_or rs i []) ∷ [])
records_next xs rs i e l =
    let all : List (List ℕ) = records_in xs in
    let m = ap length e in
    let c = length_records (length xs / record_length) xs in
    let p = length-map all piece_in in (
      omega arith,
      take_more (map piece_in all) i (piece_in []) (omega arith)
          ∙ ap (λ (q : Piece). take i (map piece_in all) ++ q ∷ []) (get_or-map piece_in all i [] (piece_in []) (omega arith) ∙ ap (λ (t : List (List ℕ)). piece_in (get_or t i [])) (sym e)),
    )

-- the pieces from record i on, by the bytes from there on
pub pieces_after : (i : ℕ) (xs : List ℕ) → record_length * i ≤ length xs → pieces_in (drop (record_length * i) xs) ≡ drop i (pieces_in xs)
pieces_after i xs l =
    let n : ℕ = length xs / record_length in
    let left : length (drop (record_length * i) xs) / record_length ≡ n - i = simp length-drop (omega arith) in
    ap (λ (k : ℕ). pieces k (drop (record_length * i) xs)) left
    ∙ ap (map piece_in) (sym (ap (drop i) (records_add i (n - i) n xs (omega arith)) ∙ drop_at (records i xs) (records (n - i) (drop (record_length * i) xs)) i (length_records i xs)))
    ∙ sym (drop-map piece_in i (records n xs))

-- one more record of those that a walk from the last is over
pub records_before : (xs : List ℕ) (rs : List (List ℕ)) (i : ℕ) → rs ≡ records_in xs → i < length rs
    → (record_length * (i + 1) ≤ length xs) × (drop i (pieces_in xs) ≡ piece_in (get_or rs i []) ∷ drop (i + 1) (pieces_in xs))
records_before xs rs i e l =
    let n : ℕ = length xs / record_length in
    let m = ap length e in
    let c = length_records n xs in
    let b : record_length * (i + 1) ≤ length xs = omega arith in (
      b,
      pieces_from i n xs (omega arith)
          ∙ ap (λ (r : List ℕ). piece_in r ∷ drop (i + 1) (pieces_in xs)) (sym (ap (λ (t : List (List ℕ)). get_or t i []) e ∙ record_is i xs [] b)),
    )
