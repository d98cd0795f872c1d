-- Walking the pieces for a key, or for the least key from a given one on.
use Rattle.std.proofs.Common.{◌≡◌, ℕ, zero, suc, ◌+◌, ◌<◌, min, Bool, true, false, cond, not, ◌&&◌, eqb, ltb, leb, List, [], ◌∷◌, ◌++◌, map, length, drop, is_some, Some, None, Option, IfSome, fold, sym, refl, ap, ◌∙◌, arith}
use Rattle.std.proofs.lemmas.Bool.Decides.{nat_tests}
use Rattle.std.specs.List.{filter, reduce, position_or_len, list_any}
use Rattle.std.specs.Option.{option_map}
use Rattle.ordered.specs.Maps.{find, has, put, without, least}
use Rattle.server.specs.Meaning.{Piece, piece_key, key_in}
use Rattle.log_server.specs.Area.{map_of}
use Rattle.log_server.specs.Records.{record_key, piece_in}
use Rattle.log_server.specs.Walks.{place_of}

pub has_place : (ps : List Piece) (k : ℕ) → has piece_key ps k ≡ is_some (place_of ps k)
has_place [] k = refl
has_place (p ∷ ps) k = let ih = has_place ps k in grind (arith, nat_tests)

pub any_has : (rs : List (List ℕ)) (k : ℕ) → list_any (λ r. eqb (record_key r) k) rs ≡ has piece_key (map piece_in rs) k
any_has [] k = refl
any_has (r ∷ rs) k = let ih = any_has rs k in grind (arith, nat_tests)

pub place_within : (ps : List Piece) (k i : ℕ) → place_of ps k ≡ Some i → i < length ps
place_within [] k i e = let z : ◌≡◌ {A = ℕ} 0 1 = cc in omega arith
place_within (p ∷ ps) k zero e = omega arith
place_within (p ∷ ps) k (suc i) e = let ih = place_within ps k i in grind (arith, nat_tests)

pub place_fits : (ps : List Piece) (k n : ℕ) (o : Option ℕ) → o ≡ place_of ps k → n ≡ length ps → IfSome o (λ i. i < n)
place_fits ps k n None e l = tt
place_fits ps k n (Some i) e l = let w = place_within ps k i (sym e) in omega arith

pub find_none : (ps : List Piece) (k : ℕ) → place_of ps k ≡ None → find piece_key ps k ≡ None
find_none [] k e = refl
find_none (p ∷ ps) k e = let ih = find_none ps k in grind (arith, nat_tests)

pub find_place : (ps qs : List Piece) (k i : ℕ) (q : Piece) → place_of ps k ≡ Some i → drop i ps ≡ q ∷ qs → find piece_key ps k ≡ Some q
find_place [] qs k i q e d = let z : ◌≡◌ {A = ℕ} 0 1 = cc in absurd (omega arith)
find_place (p ∷ ps) qs k zero q e d = let f : p ≡ q = cc in grind (arith, nat_tests)
find_place (p ∷ ps) qs k (suc i) q e d = let ih = find_place ps qs k i q in grind (arith, nat_tests)

pub without_at : (us vs : List Piece) (p : Piece) (k i : ℕ) → length us ≡ i → place_of (us ++ p ∷ vs) k ≡ Some i → without piece_key (us ++ p ∷ vs) k ≡ us ++ vs
without_at [] vs p k i l e = grind (arith, nat_tests)
without_at (u ∷ us) vs p k zero l e = absurd (omega arith)
without_at (u ∷ us) vs p k (suc i) l e = let ih = without_at us vs p k i (omega arith) in grind (arith, nat_tests)

-- ---- the first with a key, as a walk finds it

place_next : (b : Bool) (m : ℕ) → cond b (Some (suc m)) None ≡ option_map suc (cond b (Some m) None)
place_next true m = refl
place_next false m = refl

place_step : (b : Bool) (m l : ℕ) (o : Option ℕ) → cond (ltb m l) (Some m) None ≡ o → cond (ltb (cond (not b) (1 + m) 0) (suc l)) (Some (cond (not b) (1 + m) 0)) None ≡ cond b (Some 0) (option_map suc o)
place_step true m l o e = ap (λ (b : Bool). cond b (Some 0) None) (let t : ltb 0 (suc l) ≡ true = grind (arith, nat_tests) in t)
place_step false m l o e = ap (λ (n : ℕ). cond (ltb n (suc l)) (Some n) None) (let s : 1 + m ≡ suc m = omega arith in s)
    ∙ ap (λ (b : Bool). cond b (Some (suc m)) None) (let t : ltb (suc m) (suc l) ≡ ltb m l = grind (arith, nat_tests) in t) ∙ place_next (ltb m l) m ∙ ap (option_map suc) e

pub place_is : (rs : List (List ℕ)) (k : ℕ) → cond (ltb (position_or_len (λ r. eqb (record_key r) k) rs) (length rs)) (Some (position_or_len (λ r. eqb (record_key r) k) rs)) None ≡ place_of (map piece_in rs) k
place_is [] k = refl
place_is (r ∷ rs) k = place_step (eqb (record_key r) k) (position_or_len (λ r. eqb (record_key r) k) rs) (length rs) (place_of (map piece_in rs) k) (place_is rs k)

-- ---- the least key from k up, as a walk finds it

-- the nearer of a key x and the best of others, of those from k up
abbrev nearer : ℕ → ℕ → Option ℕ → Option ℕ
nearer k x None = cond (leb k x) (Some x) None
nearer k x (Some y) = cond (leb k x && ltb x y) (Some x) (Some y)

least_put : (ps : List Piece) (p : Piece) (k : ℕ) → key_in (least piece_key (put piece_key ps p) k) ≡ nearer k (piece_key p) (key_in (least piece_key ps k))
least_put [] p k = grind (arith, nat_tests)
least_put (q ∷ ps) p k = let ih = least_put ps p k in grind (arith, nat_tests)

fold_min : (x y : ℕ) (xs : List ℕ) → fold min (min x y) xs ≡ min x (fold min y xs)
fold_min x y [] = refl
fold_min x y (z ∷ xs) = ap (λ (t : ℕ). fold min t xs) (let a : min (min x y) z ≡ min x (min y z) = omega arith in a) ∙ fold_min x (min y z) xs

nearer_min : (k x y : ℕ) → leb k x ≡ true → Some (min x y) ≡ nearer k x (Some y)
nearer_min k x y e = grind (arith, nat_tests)

least_step : (k x : ℕ) (b : Bool) (ys : List ℕ) → leb k x ≡ b → reduce min (cond b (x ∷ ys) ys) ≡ nearer k x (reduce min ys)
least_step k x true [] e = grind (arith, nat_tests)
least_step k x true (y ∷ ys) e = ap Some (fold_min x y ys) ∙ nearer_min k x (fold min y ys) e
least_step k x false [] e = grind (arith, nat_tests)
least_step k x false (y ∷ ys) e = grind (arith, nat_tests)

pub least_is : (k : ℕ) (rs : List (List ℕ)) → reduce min (filter (leb k) (map record_key rs)) ≡ key_in (least piece_key (map_of (map piece_in rs)) k)
least_is k [] = refl
least_is k (r ∷ rs) =
    least_step k (record_key r) (leb k (record_key r)) (filter (leb k) (map record_key rs)) refl
    ∙ ap (nearer k (record_key r)) (least_is k rs) ∙ sym (least_put (map_of (map piece_in rs)) (piece_in r) k)
