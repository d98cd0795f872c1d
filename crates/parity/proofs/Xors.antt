-- Exclusive or of fragments: its laws.
use Rattle.std.proofs.Common.{rules, ◌≡◌, ℕ, ◌+◌, ◌<◌, List, [], ◌∷◌, ◌++◌, length, get_or, take, drop, replicate, sym, refl, ap, ◌∙◌}
use lib.Bits.{bit_xor, xor_self, xor_assoc, xor_zero_r, xor_comm}
use Rattle.std.specs.List.{AllByRecursion}
use Rattle.std.proofs.lemmas.Grind.{common_steps}
use Rattle.std.proofs.lemmas.List.{take-append-drop, drop_more}
use Rattle.std.proofs.lemmas.Simd.{length-zip2, zip2_splat}
use Rattle.std.proofs.ByRecursion.{All-append, All-take, All-drop, All-get_or, All-from_get_or}
use Rattle.geometry.specs.Sizes.{fragment_length}
use Rattle.parity.specs.Xor.{xored, nought, xor_all, Long, ParityCancels, OneFromTheOthers}

-- ---- two fragments

pub xored_assoc : (xs ys zs : List ℕ) → xored (xored xs ys) zs ≡ xored xs (xored ys zs)
xored_assoc [] ys zs = refl
xored_assoc (x ∷ xs) [] zs = refl
xored_assoc (x ∷ xs) (y ∷ ys) [] = refl
xored_assoc (x ∷ xs) (y ∷ ys) (z ∷ zs) = rw (xor_assoc x y z, xored_assoc xs ys zs)

pub xored_comm : (xs ys : List ℕ) → xored xs ys ≡ xored ys xs
xored_comm [] [] = refl
xored_comm [] (y ∷ ys) = refl
xored_comm (x ∷ xs) [] = refl
xored_comm (x ∷ xs) (y ∷ ys) = rw (xor_comm x y, xored_comm xs ys)

pub xored_zeros : (n : ℕ) (xs : List ℕ) → length xs ≡ n → xored xs (replicate n 0) ≡ xs
xored_zeros n xs e = rw (zip2_splat bit_xor xs n 0 e) (search (rules, common_steps, xor_zero_r))

xored_self_zeros : (xs : List ℕ) → xored xs xs ≡ replicate (length xs) 0
xored_self_zeros [] = refl
xored_self_zeros (x ∷ xs) = rw (xor_self x, xored_self_zeros xs)

pub xored_nought : (f : List ℕ) → Long f → xored f nought ≡ f
xored_nought f l = xored_zeros fragment_length f l

pub nought_xored : (f : List ℕ) → Long f → xored nought f ≡ f
nought_xored f l = xored_comm nought f ∙ xored_nought f l

pub xored_self : (f : List ℕ) → Long f → xored f f ≡ nought
xored_self f l = xored_self_zeros f ∙ ap (λ n. replicate n 0) l

pub length_xored : (f g : List ℕ) → Long f → Long g → Long (xored f g)
length_xored f g l m = length-zip2 bit_xor f g (l ∙ sym m) ∙ l

-- two that leave nothing are the same
pub same_from_nought : (f g : List ℕ) → Long f → Long g → xored f g ≡ nought → g ≡ f
same_from_nought f g l m e =
    sym (nought_xored g m)
    ∙ ap (λ t. xored t g) (sym (xored_self f l))
    ∙ xored_assoc f f g
    ∙ ap (xored f) e
    ∙ xored_nought f l

-- ---- many fragments

pub length-xor_all : (fs : List (List ℕ)) → AllByRecursion Long fs → Long (xor_all fs)
length-xor_all [] a = refl
length-xor_all (f ∷ fs) a = length_xored f (xor_all fs) a.0 (length-xor_all fs a.1)

-- the same, of fragments that are each said to be long
pub long_sum : (fs : List (List ℕ)) → ((i : ℕ) → i < length fs → Long (get_or fs i [])) → Long (xor_all fs)
long_sum fs each = length-xor_all fs (All-from_get_or Long fs [] each)

pub xor_all-append : (fs gs : List (List ℕ)) → AllByRecursion Long gs → xor_all (fs ++ gs) ≡ xored (xor_all fs) (xor_all gs)
xor_all-append [] gs a = rw (nought_xored (xor_all gs) (length-xor_all gs a))
xor_all-append (f ∷ fs) gs a = rw (xor_all-append fs gs a, xored_assoc)

-- going round, from any place, gives the same
pub xor_all_rotated : (fs : List (List ℕ)) (p : ℕ) → AllByRecursion Long fs → xor_all (drop p fs ++ take p fs) ≡ xor_all fs
xor_all_rotated fs p a =
    xor_all-append (drop p fs) (take p fs) (All-take Long p fs a)
    ∙ xored_comm (xor_all (drop p fs)) (xor_all (take p fs))
    ∙ sym (xor_all-append (take p fs) (drop p fs) (All-drop Long p fs a))
    ∙ ap xor_all (take-append-drop p fs)

pub parity_cancels : ParityCancels
parity_cancels ds a = xored_self (xor_all ds) (length-xor_all ds a)

-- any one of them can be taken out to the front
pub xor_all_out : (before after : List (List ℕ)) (f : List ℕ) → xor_all (before ++ f ∷ after) ≡ xored f (xor_all (before ++ after))
xor_all_out [] after f = refl
xor_all_out (b ∷ before) after f = rw (xor_all_out before after f, ← xored_assoc b f, xored_comm b f, xored_assoc)

pub one_from_the_others : OneFromTheOthers
one_from_the_others whole s a e h =
    let before : List (List ℕ) = take s whole in
    let after : List (List ℕ) = drop (s + 1) whole in
    let f : List ℕ = get_or whole s [] in
    let long = All-append Long before after (All-take Long s whole a) (All-drop Long (s + 1) whole a) in
    same_from_nought f (xor_all (before ++ after)) (All-get_or Long whole s [] h a) (length-xor_all (before ++ after) long)
    (rw (← xor_all_out before after f, ← drop_more whole s [] h, take-append-drop) e)
