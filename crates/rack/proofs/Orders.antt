-- Numbers in order: the least of them from a number on, and what a walk from one to the next has left.
use Rattle.std.proofs.Common.{◌≡◌, ℕ, suc, ◌+◌, ◌≤◌, true, List, [], ◌∷◌, ◌++◌, Some, None, Option, refl, sym, ap, ◌∙◌, arith}
use Rattle.std.specs.Prelude.{if◌then◌else◌, ◌||◌, ◌&&◌, nat_le, nat_eq}
use Rattle.std.proofs.lemmas.Bool.Decides.{nat_tests}
use Rattle.ordered.specs.Maps.{put, find, least, rises_from, Rises}
use Rattle.ordered.proofs.Maps.{rises_put, least_from, same_from_finds, rises_from_lower}
use Rattle.rack.specs.Lists.{is_among, in_order, from_on, lower}

-- ---- lists that rise

pub rises-in_order : (xs : List ℕ) → Rises (λ k. k) (in_order xs)
rises-in_order [] = refl
rises-in_order (x ∷ xs) = rises_put (λ k. k) (in_order xs) x (rises-in_order xs)

put_below : (xs : List ℕ) (x : ℕ) → rises_from (λ k. k) (suc x) xs ≡ true → put (λ k. k) xs x ≡ x ∷ xs
put_below [] x r = refl
put_below (y ∷ ys) x r = grind (arith, nat_tests)

-- what rises is in order as it is
pub in_order_rising : (xs : List ℕ) (low : ℕ) → rises_from (λ k. k) low xs ≡ true → in_order xs ≡ xs
in_order_rising [] low r = refl
in_order_rising (x ∷ xs) low r =
    let ih = in_order_rising xs (suc x) in let b = put_below xs x in grind (arith, nat_tests)

-- ---- which numbers are among them

pub among-append : (xs ys : List ℕ) (k : ℕ) → is_among (xs ++ ys) k ≡ (is_among xs k || is_among ys k)
among-append [] ys k = refl
among-append (x ∷ xs) ys k = let ih = among-append xs ys k in grind (arith, nat_tests)

among-put : (xs : List ℕ) (e k : ℕ) → is_among (put (λ k. k) xs e) k ≡ (nat_eq e k || is_among xs k)
among-put [] e k = grind (arith, nat_tests)
among-put (x ∷ xs) e k = let ih = among-put xs e k in grind (arith, nat_tests)

pub among-in_order : (xs : List ℕ) (k : ℕ) → is_among (in_order xs) k ≡ is_among xs k
among-in_order [] k = refl
among-in_order (x ∷ xs) k = let ih = among-in_order xs k in let p = among-put (in_order xs) x k in grind (arith, nat_tests)

found : (xs : List ℕ) (k : ℕ) → find (λ k. k) xs k ≡ (if is_among xs k then Some k else None)
found [] k = refl
found (x ∷ xs) k = let ih = found xs k in grind (arith, nat_tests)

-- lists that rise and have the same numbers are the same
pub same_members : (xs ys : List ℕ) → Rises (λ k. k) xs → Rises (λ k. k) ys → ((k : ℕ) → is_among xs k ≡ is_among ys k) → xs ≡ ys
same_members xs ys r s h =
    same_from_finds (λ k. k) xs ys r s (λ k. found xs k ∙ ap (λ b. if b then Some k else None) (h k) ∙ sym (found ys k))

-- numbers in order, and more
pub in_order_more : (xs ys : List ℕ) → in_order (in_order xs ++ ys) ≡ in_order (xs ++ ys)
in_order_more xs ys =
    same_members (in_order (in_order xs ++ ys)) (in_order (xs ++ ys)) (rises-in_order (in_order xs ++ ys)) (rises-in_order (xs ++ ys))
    (λ k. rw (among-in_order, among-in_order, among-append, among-append, among-in_order))

-- ---- the least from a number on

pub lower_none : (o : Option ℕ) → lower o None ≡ o
lower_none None = refl
lower_none (Some x) = refl

pub lower_assoc : (a b c : Option ℕ) → lower (lower a b) c ≡ lower a (lower b c)
lower_assoc None b c = refl
lower_assoc (Some x) None c = refl
lower_assoc (Some x) (Some y) None = refl
lower_assoc (Some x) (Some y) (Some z) = ap Some (omega arith)

least_put : (xs : List ℕ) (low e k : ℕ) → rises_from (λ k. k) low xs ≡ true → least (λ k. k) (put (λ k. k) xs e) k ≡ lower (least (λ k. k) (e ∷ []) k) (least (λ k. k) xs k)
least_put [] low e k r = grind (arith, nat_tests)
least_put (x ∷ xs) low e k r = let ih = least_put xs (suc x) e k in grind (arith, nat_tests)

-- of two lists in order as one, the lower of the leasts
pub least-append : (xs ys : List ℕ) (k : ℕ) → least (λ k. k) (in_order (xs ++ ys)) k ≡ lower (least (λ k. k) (in_order xs) k) (least (λ k. k) (in_order ys) k)
least-append [] ys k = refl
least-append (x ∷ xs) ys k =
    let one = least (λ k. k) (x ∷ []) k in
    let more = least_put (in_order (xs ++ ys)) 0 x k (rises-in_order (xs ++ ys)) in
    let alone = least_put (in_order xs) 0 x k (rises-in_order xs) in
    rw (more, alone, least-append xs ys k, lower_assoc)

-- ---- a walk

pub from_on_none : (xs : List ℕ) (k : ℕ) → least (λ k. k) xs k ≡ None → from_on k xs ≡ []
from_on_none [] k h = refl
from_on_none (x ∷ xs) k h = let ih = from_on_none xs k in grind (arith, nat_tests)

all_on : (xs : List ℕ) (low k : ℕ) → k ≤ low → rises_from (λ k. k) low xs ≡ true → from_on k xs ≡ xs
all_on [] low k l r = refl
all_on (x ∷ xs) low k l r = let ih = all_on xs (suc x) k in grind (arith, nat_tests)

pub from_on_all : (xs : List ℕ) → Rises (λ k. k) xs → from_on 0 xs ≡ xs
from_on_all xs = all_on xs 0 0 (omega arith)

rises-from_on : (xs : List ℕ) (low k : ℕ) → rises_from (λ k. k) low xs ≡ true → rises_from (λ k. k) low (from_on k xs) ≡ true
rises-from_on [] low k r = refl
rises-from_on (x ∷ xs) low k r =
    let ih = rises-from_on xs (suc x) k in
    let l = rises_from_lower (λ k. k) (from_on k xs) low (suc x) in
    grind (arith, nat_tests)

among-from_on : (xs : List ℕ) (k q : ℕ) → is_among (from_on k xs) q ≡ (nat_le k q && is_among xs q)
among-from_on [] k q = grind (arith, nat_tests)
among-from_on (x ∷ xs) k q = let ih = among-from_on xs k q in grind (arith, nat_tests)

-- lists that rise and have the same numbers from k on
pub from_on_same : (xs ys : List ℕ) (k : ℕ) → Rises (λ k. k) xs → Rises (λ k. k) ys → ((q : ℕ) → k ≤ q → is_among xs q ≡ is_among ys q) → from_on k xs ≡ from_on k ys
from_on_same xs ys k r s h =
    same_members (from_on k xs) (from_on k ys) (rises-from_on xs 0 k r) (rises-from_on ys 0 k s)
    (λ q. let a = h q in let b = among-from_on xs k q in let c = among-from_on ys k q in grind (arith, nat_tests))

next_on : (xs : List ℕ) (low k q : ℕ) → rises_from (λ k. k) low xs ≡ true → least (λ k. k) xs k ≡ Some q → from_on k xs ≡ q ∷ from_on (q + 1) xs
next_on [] low k q r h = grind (arith, nat_tests)
next_on (x ∷ xs) low k q r h =
    let ih = next_on xs (suc x) k q in
    let a = all_on xs (suc x) k in
    let b = all_on xs (suc x) (q + 1) in
    let c = least_from (λ k. k) xs k q in
    grind (arith, nat_tests)

-- the least from k on, and then those after it
pub from_on_next : (xs : List ℕ) (k q : ℕ) → Rises (λ k. k) xs → least (λ k. k) xs k ≡ Some q → from_on k xs ≡ q ∷ from_on (q + 1) xs
from_on_next xs = next_on xs 0
