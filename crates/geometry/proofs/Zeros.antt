-- Zeros, looked for a part at a time.
use Rattle.std.proofs.Common.{◌≡◌, ℕ, zero, suc, ◌+◌, ◌*◌, ◌≤◌, Bool, ◌&&◌, nat_eq, List, [], ◌∷◌, length, take, drop, replicate, sym, refl, ap, ◌∙◌, arith}
use Rattle.std.specs.List.{list_all}
use Rattle.std.specs.Simd.{first_chunks}
use Rattle.std.specs.Cmp.Lexicographic.{pointwise}
use Rattle.std.proofs.Math.Bool.{and_assoc}
use Rattle.std.proofs.lemmas.List.{take-append-drop, drop-drop, length-take-le, length-drop}
use Rattle.std.proofs.lemmas.List.Folds.{list_all-append}
use Rattle.geometry.specs.Bytes.{zeros}

-- a part is all zero just where it equals as many zeros
abbrev pub is_zero : ℕ → List ℕ → Bool
is_zero w part = pointwise nat_eq part (replicate w 0)

zero_part : (w : ℕ) (part : List ℕ) → length part ≡ w → is_zero w part ≡ zeros part
zero_part zero [] e = refl
zero_part zero (b ∷ bs) e = absurd (omega arith)
zero_part (suc w) [] e = absurd (omega arith)
zero_part (suc w) (b ∷ bs) e = ap (λ (t : Bool). nat_eq b 0 && t) (zero_part w bs (omega arith))

-- all of so many parts, and what follows them
pub zero_parts : (n : ℕ) (xs : List ℕ) → n * 16 ≤ length xs → (list_all (is_zero 16) (first_chunks 16 n xs) && zeros (drop (n * 16) xs)) ≡ zeros xs
zero_parts zero xs l = refl
zero_parts (suc n) xs l =
    let ys : List ℕ = drop 16 xs in
    let m : n * 16 ≤ length ys = simp length-drop (omega arith) in
    let e : 16 + n * 16 ≡ suc n * 16 = omega arith in
    let r : drop (suc n * 16) xs ≡ drop (n * 16) ys = ap (λ (k : ℕ). drop k xs) (sym e) ∙ sym (drop-drop (n * 16) 16 xs) in
    ap (λ (k : List ℕ). (is_zero 16 (take 16 xs) && list_all (is_zero 16) (first_chunks 16 n ys)) && zeros k) r
    ∙ and_assoc (is_zero 16 (take 16 xs)) (list_all (is_zero 16) (first_chunks 16 n ys)) (zeros (drop (n * 16) ys))
    ∙ ap (λ (t : Bool). is_zero 16 (take 16 xs) && t) (zero_parts n ys m)
    ∙ ap (λ (t : Bool). t && zeros ys) (zero_part 16 (take 16 xs) (length-take-le 16 xs (omega arith)))
    ∙ sym (list_all-append (λ b. nat_eq b 0) (take 16 xs) ys) ∙ ap zeros (take-append-drop 16 xs)
