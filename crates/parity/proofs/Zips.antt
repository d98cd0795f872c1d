-- Lists joined place by place, a part at a time.
use Rattle.std.proofs.Common.{◌≡◌, ℕ, zero, suc, ◌+◌, ◌≤◌, List, [], ◌∷◌, ◌++◌, length, take, drop, refl, ap, ◌∙◌, arith, take-add}
use lib.Lanes.{zip2, chunk, put_chunk}
use Rattle.std.proofs.lemmas.Grind.{common_steps}
use Rattle.std.proofs.lemmas.Simd.{length-zip2, put_chunk_is}

pub take_zip2 : (f : ℕ → ℕ → ℕ) (n : ℕ) (xs ys : List ℕ) → take n (zip2 f xs ys) ≡ zip2 f (take n xs) (take n ys)
take_zip2 f zero xs ys = refl
take_zip2 f (suc n) [] ys = refl
take_zip2 f (suc n) (x ∷ xs) [] = refl
take_zip2 f (suc n) (x ∷ xs) (y ∷ ys) = rw (take_zip2 f n xs ys)

pub drop_zip2 : (f : ℕ → ℕ → ℕ) (n : ℕ) (xs ys : List ℕ) → length xs ≡ length ys → drop n (zip2 f xs ys) ≡ zip2 f (drop n xs) (drop n ys)
drop_zip2 f zero xs ys e = refl
drop_zip2 f (suc n) [] ys e = refl
drop_zip2 f (suc n) (x ∷ xs) [] e = absurd (omega arith)
drop_zip2 f (suc n) (x ∷ xs) (y ∷ ys) e = drop_zip2 f n xs ys (omega arith)

pub chunk_zip2 : (f : ℕ → ℕ → ℕ) (i n : ℕ) (xs ys : List ℕ) → length xs ≡ length ys → chunk i n (zip2 f xs ys) ≡ zip2 f (chunk i n xs) (chunk i n ys)
chunk_zip2 f i n xs ys e = ap (take n) (drop_zip2 f i xs ys e) ∙ take_zip2 f n (drop i xs) (drop i ys)

-- a loop that stores w places more, in zs
pub zip2_more : (f : ℕ → ℕ → ℕ) (w i : ℕ) (xs ys now zs : List ℕ) → i + w ≤ length xs → length xs ≡ length ys → now ≡ take i (zip2 f xs ys) ++ drop i xs → zs ≡ zip2 f (chunk i w now) (chunk i w ys) → put_chunk i now zs ≡ take (i + w) (zip2 f xs ys) ++ drop (i + w) xs
zip2_more f w i xs ys now zs h e n z =
    let long = length-zip2 f xs ys e in
    let left : drop i now ≡ drop i xs = rw n (grind (arith, common_steps)) in
    let done : zs ≡ chunk i w (zip2 f xs ys) = grind (arith, chunk_zip2) in
    rw n (grind (arith, common_steps, put_chunk_is, take-add))
