-- Parts of a list of bytes written over, and runs of zeros.
use Rattle.std.proofs.Common.{◌≡◌, ℕ, ◌+◌, true, eqb, List, [], ◌∷◌, ◌++◌, length, take, drop, replicate, sym, refl, ap, ◌∙◌, arith, eqb-true}
use borrow.Rule.Slice.PartMut.{put_mid, post_of}
use Rattle.std.proofs.lemmas.List.{drop-drop, drop_all, take_at, append-nil, length-append, length-drop, length-replicate}
use Rattle.std.proofs.lemmas.Bool.{and_parts}
use Rattle.geometry.specs.Bytes.{zeros}

-- a part of k bytes at `at`, written over
pub put_part : (at k n : ℕ) (bs ys : List ℕ) → k ≡ n → put_mid at k bs ys ≡ take at bs ++ (ys ++ drop (at + n) bs)
put_part at k n bs ys e = ap (λ t. take at bs ++ (ys ++ t)) (drop-drop k at bs ∙ ap (λ m. drop (at + m) bs) e)

-- two parts, one after the other, that are all there is
pub put_two : (m n : ℕ) (out d e : List ℕ) → length out ≡ m + n → length d ≡ m → length e ≡ n → put_mid m n (d ++ post_of 0 m out) e ≡ d ++ e
put_two m n out d e long p q =
    let l : length (d ++ drop m out) ≡ m + n = length-append d (drop m out) ∙ ap (λ k. length d + k) (length-drop m out) ∙ omega arith in
    put_part m n n (d ++ drop m out) e refl
    ∙ ap (λ t. t ++ (e ++ drop (m + n) (d ++ drop m out))) (take_at d (drop m out) m p)
    ∙ ap (λ t. d ++ (e ++ t)) (drop_all (m + n) (d ++ drop m out) (omega arith))
    ∙ ap (λ t. d ++ t) (append-nil e)

-- zeros, by how many there are
pub zeros_long : (m n : ℕ) (xs : List ℕ) → xs ≡ replicate m 0 → length xs ≡ n → xs ≡ replicate n 0
zeros_long m n xs e l = e ∙ ap (λ (k : ℕ). replicate k 0) (sym (length-replicate m 0) ∙ sym (ap length e) ∙ l)

-- m bytes that are all zero
pub zeros_are : (m : ℕ) (xs : List ℕ) → length xs ≡ m → zeros xs ≡ true → xs ≡ replicate m 0
zeros_are m [] e h = ap (λ k. replicate k 0) e
zeros_are m (x ∷ xs) e h =
    let p = and_parts (eqb x 0) (zeros xs) h in
    (λ t. eqb-true x 0 p.0 t ∷ zeros_are (length xs) xs refl p.1 t) ∙ ap (λ k. replicate k 0) e
