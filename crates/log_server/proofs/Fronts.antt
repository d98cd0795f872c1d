-- The held records at the front, and the rest.
use Rattle.std.proofs.Common.{◌≡◌, ℕ, zero, suc, ◌+◌, ◌*◌, ◌/◌, ◌≤◌, Bool, true, false, cond, ◌&&◌, eqb, List, [], ◌∷◌, ◌++◌, length, take, drop, sym, refl, ap, ◌∙◌, arith, take-add}
use Rattle.std.proofs.lemmas.Bool.Decides.{nat_tests}
use Rattle.std.proofs.lemmas.Bool.{and_parts, and_from}
use Rattle.std.proofs.lemmas.List.Folds.{list_all-append}
use Rattle.std.specs.List.{list_all, prefix_len}
use Rattle.geometry.specs.Bytes.{zeros}
use Rattle.log_server.specs.Records.{record_length, is_held, records, records_in}
use Rattle.log_server.specs.Area.{front, rest}
use Rattle.log_server.specs.Sound.{length_front}

pub all_join : {X : Type 0} (f : X → Bool) (xs ys : List X) → list_all f xs ≡ true → list_all f ys ≡ true → list_all f (xs ++ ys) ≡ true
all_join f xs ys p q = list_all-append f xs ys ∙ and_from (list_all f xs) (list_all f ys) p q

pub all_parts : {X : Type 0} (f : X → Bool) (xs ys : List X) → list_all f (xs ++ ys) ≡ true → (list_all f xs ≡ true) × (list_all f ys ≡ true)
all_parts f xs ys h = and_parts (list_all f xs) (list_all f ys) (sym (list_all-append f xs ys) ∙ h)

pub front_rest : (rs : List (List ℕ)) → rs ≡ front rs ++ rest rs
front_rest [] = refl
front_rest (r ∷ rs) = let ih = front_rest rs in grind (arith, nat_tests)

front_step : (b : Bool) (n : ℕ) (r : List ℕ) (rs fs : List (List ℕ)) → take n rs ≡ fs → take (cond b (1 + n) 0) (r ∷ rs) ≡ cond b (r ∷ fs) []
front_step true n r rs fs e = let s : 1 + n ≡ suc n = omega arith in ap (λ (k : ℕ). take k (r ∷ rs)) s ∙ ap (λ (t : List (List ℕ)). r ∷ t) e
front_step false n r rs fs e = refl

-- the held records at the front, as a walk takes them
pub front_is : (rs : List (List ℕ)) → take (prefix_len is_held rs) rs ≡ front rs
front_is [] = refl
front_is (r ∷ rs) = front_step (is_held r) (prefix_len is_held rs) r rs (front rs) (front_is rs)

pub front_within : (h : ℕ) (xs : List ℕ) → h ≡ length (front (records_in xs)) → record_length * h ≤ length xs
front_within h xs e = let l = length_front (length xs / record_length) xs in omega arith

pub front_held : (rs : List (List ℕ)) → list_all is_held (front rs) ≡ true
front_held [] = refl
front_held (r ∷ rs) = let ih = front_held rs in grind (arith, nat_tests)

free_not_held : (r : List ℕ) → zeros r ≡ true → is_held r ≡ false
free_not_held [] z = refl
free_not_held (b ∷ bs) z = grind (arith, nat_tests)

pub front_of : (hs fs : List (List ℕ)) → list_all is_held hs ≡ true → list_all zeros fs ≡ true → front (hs ++ fs) ≡ hs
front_of [] [] h z = refl
front_of [] (f ∷ fs) h z = let n = free_not_held f in grind (arith, nat_tests)
front_of (r ∷ hs) fs h z = let ih = front_of hs fs in grind (arith, nat_tests)

pub rest_of : (hs fs : List (List ℕ)) → list_all is_held hs ≡ true → list_all zeros fs ≡ true → rest (hs ++ fs) ≡ fs
rest_of [] [] h z = refl
rest_of [] (f ∷ fs) h z = let n = free_not_held f in grind (arith, nat_tests)
rest_of (r ∷ hs) fs h z = let ih = rest_of hs fs in grind (arith, nat_tests)

-- records are free where all their bytes are zero
pub zeros_records : (n : ℕ) (xs : List ℕ) → zeros (take (record_length * n) xs) ≡ list_all zeros (records n xs)
zeros_records zero xs = refl
zeros_records (suc n) xs =
    let e : record_length * suc n ≡ record_length + record_length * n = omega arith in
    ap (λ (k : ℕ). zeros (take k xs)) e ∙ ap zeros (take-add record_length (record_length * n) xs)
    ∙ list_all-append (λ b. eqb b 0) (take record_length xs) (take (record_length * n) (drop record_length xs))
    ∙ ap (λ (t : Bool). zeros (take record_length xs) && t) (zeros_records n (drop record_length xs))
