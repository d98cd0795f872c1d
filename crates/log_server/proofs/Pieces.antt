-- Pieces in the order of their records, and the map of them.
use Rattle.std.proofs.Common.{◌≡◌, ℕ, zero, suc, ◌<◌, ◌≤◌, Bool, true, false, cond, eqb, ltb, List, [], ◌∷◌, ◌++◌, length, take, drop, Some, None, Option, MatchOption, refl, ap, ◌∙◌, arith}
use Rattle.std.proofs.lemmas.Bool.Decides.{nat_tests}
use Rattle.std.proofs.lemmas.List.{take-append-drop}
use Rattle.ordered.specs.Maps.{find, has, put, without}
use Rattle.ordered.proofs.Maps.{find_put_same, find_put_other, find_without_same, find_without_other, length_put_new, rises_put, rises_without, same_from_finds}
use Rattle.server.specs.Meaning.{Piece, piece_key}
use Rattle.log_server.specs.Area.{apart, map_of}
use Rattle.log_server.specs.Sound.{rises_map}

pub find_map_of : (ps : List Piece) (k : ℕ) → find piece_key (map_of ps) k ≡ find piece_key ps k
find_map_of [] k = refl
find_map_of (p ∷ ps) k =
    let ih = find_map_of ps k in
    let s = find_put_same piece_key (map_of ps) p in
    let o = find_put_other piece_key (map_of ps) p k in
    grind (arith, nat_tests)

pub length_map_of : (ps : List Piece) → apart ps ≡ true → length (map_of ps) ≡ length ps
length_map_of [] a = refl
length_map_of (p ∷ ps) a =
    let ih = length_map_of ps in
    let l = length_put_new piece_key (map_of ps) p in
    let f = find_map_of ps (piece_key p) in
    grind (arith, nat_tests)

-- ---- one more piece

find_push : (ps : List Piece) (p : Piece) (k : ℕ) → has piece_key ps (piece_key p) ≡ false
    → find piece_key (ps ++ p ∷ []) k ≡ cond (eqb (piece_key p) k) (Some p) (find piece_key ps k)
find_push [] p k h = refl
find_push (q ∷ ps) p k h = let ih = find_push ps p k in grind (arith, nat_tests)

pub map_of_push : (ps : List Piece) (p : Piece) → has piece_key ps (piece_key p) ≡ false → map_of (ps ++ p ∷ []) ≡ put piece_key (map_of ps) p
map_of_push ps p h =
    same_from_finds piece_key (map_of (ps ++ p ∷ [])) (put piece_key (map_of ps) p) (rises_map (ps ++ p ∷ [])) (rises_put piece_key (map_of ps) p (rises_map ps))
    (λ k.
    let a = find_map_of (ps ++ p ∷ []) k in
    let b = find_push ps p k h in
    let c = find_map_of ps k in
    let s = find_put_same piece_key (map_of ps) p in
    let o = find_put_other piece_key (map_of ps) p k in
    grind (arith, nat_tests))

pub apart_push : (ps : List Piece) (p : Piece) → has piece_key ps (piece_key p) ≡ false → apart ps ≡ true → apart (ps ++ p ∷ []) ≡ true
apart_push [] p h a = refl
apart_push (q ∷ ps) p h a = let ih = apart_push ps p in let f = find_push ps p (piece_key q) in grind (arith, nat_tests)

-- ---- one piece less

find_apart : (ps : List Piece) (k : ℕ) → apart ps ≡ true → find piece_key (without piece_key ps k) k ≡ None
find_apart [] k a = refl
find_apart (p ∷ ps) k a = let ih = find_apart ps k in grind (arith, nat_tests)

pub map_of_without : (ps : List Piece) (k : ℕ) → apart ps ≡ true → map_of (without piece_key ps k) ≡ without piece_key (map_of ps) k
map_of_without ps k a =
    same_from_finds piece_key (map_of (without piece_key ps k)) (without piece_key (map_of ps) k) (rises_map (without piece_key ps k)) (rises_without piece_key (map_of ps) k (rises_map ps))
    (λ q.
    let e = find_map_of (without piece_key ps k) q in
    let f = find_map_of ps q in
    let s = find_apart ps k a in
    let t = find_without_same piece_key (map_of ps) k (rises_map ps) in
    let u = find_without_other piece_key ps k q in
    let v = find_without_other piece_key (map_of ps) k q in
    grind (arith, nat_tests))

pub apart_without : (ps : List Piece) (k : ℕ) → apart ps ≡ true → apart (without piece_key ps k) ≡ true
apart_without [] k a = refl
apart_without (p ∷ ps) k a = let ih = apart_without ps k in let u = find_without_other piece_key ps k (piece_key p) in grind (arith, nat_tests)

-- ---- keys of their own, walked

-- k is above the greatest so far
abbrev pub IsAbove : Option ℕ → ℕ → Type 0
IsAbove None k = Unit {0}
IsAbove (Some g) k = g < k

pub IsAbove-same : (f : Option ℕ) (b : Bool) (j k : ℕ) → MatchOption f (b ≡ true) (λ g. b ≡ ltb g j) → b ≡ true → j ≤ k → IsAbove f k
IsAbove-same None b j k m t l = tt
IsAbove-same (Some g) b j k m t l = grind (arith, nat_tests)

pub IsAbove-least : (f : Option ℕ) (b : Bool) (j k : ℕ) → MatchOption f (b ≡ true) (λ g. b ≡ ltb g j) → b ≡ false → IsAbove f k → j < k
IsAbove-least None b j k m t u = let z : ◌≡◌ {A = ℕ} 0 1 = cc in absurd (omega arith)
IsAbove-least (Some g) b j k m t u = grind (arith, nat_tests)

-- k is below the least so far
abbrev pub IsBelow : Option ℕ → ℕ → Type 0
IsBelow None k = Unit {0}
IsBelow (Some l) k = k < l

pub IsBelow-same : (f : Option ℕ) (b : Bool) (j k : ℕ) → MatchOption f (b ≡ true) (λ l. b ≡ ltb j l) → b ≡ true → k ≤ j → IsBelow f k
IsBelow-same None b j k m t l = tt
IsBelow-same (Some g) b j k m t l = grind (arith, nat_tests)

pub IsBelow-greatest : (f : Option ℕ) (b : Bool) (j k : ℕ) → MatchOption f (b ≡ true) (λ l. b ≡ ltb j l) → b ≡ false → IsBelow f k → k < j
IsBelow-greatest None b j k m t u = let z : ◌≡◌ {A = ℕ} 0 1 = cc in absurd (omega arith)
IsBelow-greatest (Some g) b j k m t u = grind (arith, nat_tests)

has_push : (ps : List Piece) (p : Piece) (k : ℕ) → has piece_key ps k ≡ false → eqb (piece_key p) k ≡ false → has piece_key (ps ++ p ∷ []) k ≡ false
has_push [] p k h n = grind (arith, nat_tests)
has_push (q ∷ ps) p k h n = let ih = has_push ps p k in grind (arith, nat_tests)

-- one more piece, where the greatest so far becomes g
pub apart_next : (ps qs : List Piece) (p : Piece) (f g : Option ℕ) → qs ≡ ps ++ p ∷ [] → apart ps ≡ true → ((k : ℕ) → IsAbove f k → has piece_key ps k ≡ false)
    → has piece_key ps (piece_key p) ≡ false → ((k : ℕ) → IsAbove g k → IsAbove f k × (piece_key p < k))
    → (apart qs ≡ true) × ((k : ℕ) → IsAbove g k → has piece_key qs k ≡ false)
apart_next ps qs p f g e a b h t = (
  ap apart e ∙ apart_push ps p h a,
  λ k u. let m = t k u in ap (λ (rs : List Piece). has piece_key rs k) e ∙ has_push ps p k (b k m.0) (let n : eqb (piece_key p) k ≡ false = grind (arith, nat_tests) in n),
)

has_pushed : (ps : List Piece) (p : Piece) → has piece_key (ps ++ p ∷ []) (piece_key p) ≡ true
has_pushed [] p = grind (arith, nat_tests)
has_pushed (q ∷ ps) p = let ih = has_pushed ps p in grind (arith, nat_tests)

apart_pushed : (ps : List Piece) (p : Piece) → has piece_key ps (piece_key p) ≡ true → apart (ps ++ p ∷ []) ≡ false
apart_pushed [] p h = let z : ◌≡◌ {A = ℕ} 0 1 = cc in absurd (omega arith)
apart_pushed (q ∷ ps) p h = let ih = apart_pushed ps p in let n = has_pushed ps p in grind (arith, nat_tests)

has_left : (us vs : List Piece) (k : ℕ) → has piece_key (us ++ vs) k ≡ false → has piece_key us k ≡ false
has_left [] vs k h = refl
has_left (u ∷ us) vs k h = let ih = has_left us vs k in grind (arith, nat_tests)

apart_left : (us vs : List Piece) → apart (us ++ vs) ≡ true → apart us ≡ true
apart_left [] vs a = refl
apart_left (u ∷ us) vs a = let ih = apart_left us vs in let n = has_left us vs (piece_key u) in grind (arith, nat_tests)

-- a key that comes again
pub apart_fails : (i : ℕ) (p : Piece) (ps qs : List Piece) → take i qs ≡ ps ++ p ∷ [] → has piece_key ps (piece_key p) ≡ true → false ≡ apart qs
apart_fails i p ps qs e h =
    let a = apart_left (take i qs) (drop i qs) in
    let b = ap apart e ∙ apart_pushed ps p h in
    let c = ap apart (take-append-drop i qs) in
    grind (arith, nat_tests)

-- ---- the same, walked from the last

-- one more piece, where the least so far becomes g
pub apart_before : (ps qs : List Piece) (p : Piece) (f g : Option ℕ) → qs ≡ p ∷ ps → apart ps ≡ true → ((k : ℕ) → IsBelow f k → has piece_key ps k ≡ false)
    → has piece_key ps (piece_key p) ≡ false → ((k : ℕ) → IsBelow g k → IsBelow f k × (k < piece_key p))
    → (apart qs ≡ true) × ((k : ℕ) → IsBelow g k → has piece_key qs k ≡ false)
apart_before ps qs p f g e a b h t =
    let own : apart (p ∷ ps) ≡ true = grind (arith, nat_tests) in
    (ap apart e ∙ own, λ k u. let m = t k u in let c = b k m.0 in let l = m.1 in ap (λ (rs : List Piece). has piece_key rs k) e ∙ (let n : has piece_key (p ∷ ps) k ≡ false = grind (arith, nat_tests) in n))

apart_drop : (i : ℕ) (ps : List Piece) → apart ps ≡ true → apart (drop i ps) ≡ true
apart_drop zero ps a = a
apart_drop (suc i) [] a = refl
apart_drop (suc i) (p ∷ ps) a = apart_drop i ps (grind (arith, nat_tests))

-- a key that came later too
pub apart_fails_before : (i : ℕ) (p : Piece) (ps qs : List Piece) → drop i qs ≡ p ∷ ps → has piece_key ps (piece_key p) ≡ true → false ≡ apart qs
apart_fails_before i p ps qs e h = let a = apart_drop i qs in let b = ap apart e in grind (arith, nat_tests)
