-- Parts of a list of bytes: zeros, and all parts in a row; and an answer that passed a test.
use Rattle.std.proofs.Common.{◌≡◌, ℕ, ◌+◌, ◌≤◌, Bool, true, false, cond, eqb, List, [], ◌∷◌, ◌++◌, map, length, get_or, take, drop, replicate, Ok, Err, Result, sym, refl, ap, ◌∙◌, eqb-true}
use Rattle.std.proofs.lemmas.List.{drop-drop, take-append-drop, length-take-le, get_or-take}
use Rattle.std.proofs.lemmas.List.FromFn.{fill_by_all}
use Rattle.std.proofs.lemmas.Bool.{and_parts}
use Rattle.std.specs.List.{range_with_len}
use Rattle.geometry.specs.Bytes.{zeros, part}

-- m bytes that are all zero
pub zeros_are : (m : ℕ) (xs : List ℕ) → length xs ≡ m → zeros xs ≡ true → xs ≡ replicate m 0
zeros_are m [] e h = ap (λ k. replicate k 0) e
zeros_are m (x ∷ xs) e h =
    let p = and_parts (eqb x 0) (zeros xs) h in
    (λ t. eqb-true x 0 p.0 t ∷ zeros_are (length xs) xs refl p.1 t) ∙ ap (λ k. replicate k 0) e

-- the first m bytes one by one, then the rest
pub listed : (m : ℕ) (xs : List ℕ) → m ≤ length xs → xs ≡ map (λ i. get_or xs i 0) (range_with_len 0 m) ++ drop m xs
listed m xs h =
    sym (take-append-drop m xs)
    ∙ ap (λ t. t ++ drop m xs) (fill_by_all (λ i. get_or xs i 0) (take m xs) m 0 (length-take-le m xs h) (λ k l. get_or-take m xs k 0 l))

-- the rest from a place on is a part there, then the rest after that
pub cut : (from size : ℕ) (xs : List ℕ) → drop from xs ≡ part from size xs ++ drop (from + size) xs
cut from size xs = sym (take-append-drop size (drop from xs)) ∙ ap (λ t. part from size xs ++ t) (drop-drop size from xs)

-- a test that let an answer through
pub passed : {A E : Type 0} (b : Bool) (r : Result A E) (e : E) (x : A) → cond b r (Err e) ≡ Ok x → (b ≡ true) × (r ≡ Ok x)
passed true r e x p = (refl, p)
passed false r e x p = cc
