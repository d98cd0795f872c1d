-- How many numbers there are in order, each counted once.
use Rattle.std.proofs.Common.{◌≡◌, ℕ, ◌+◌, Bool, if◌then◌else◌, ◌&&◌, ◌||◌, List, [], ◌∷◌, filter, length, nat_eq, refl, ap, ◌∙◌, arith}
use Rattle.std.proofs.lemmas.Bool.Decides.{nat_tests}
use Rattle.ordered.specs.Maps.{has}
use Rattle.ordered.proofs.Maps.{has_put, length_put_new, length_put_held}
use Rattle.rack.specs.Lists.{is_among, in_order}
use Rattle.rack.proofs.Orders.{rises-in_order}

abbrev itself : ℕ → ℕ
itself b = b

has_in_order : (bs : List ℕ) (k : ℕ) → has itself (in_order bs) k ≡ is_among bs k
has_in_order [] k = refl
has_in_order (b ∷ bs) k = has_put itself (in_order bs) b k ∙ ap (λ t. nat_eq b k || t) (has_in_order bs k)

-- each is counted at its last place
pub length_in_order : (b : ℕ) (bs : List ℕ) → length (in_order (b ∷ bs)) ≡ (if is_among bs b then 0 else 1) + length (in_order bs)
length_in_order b bs =
    let h = has_in_order bs b in
    let new = length_put_new itself (in_order bs) b in
    let old = length_put_held itself (in_order bs) b (rises-in_order bs) in
    grind (arith, nat_tests)

pub among_filter : (p : ℕ → Bool) (bs : List ℕ) (b : ℕ) → is_among (filter p bs) b ≡ (p b && is_among bs b)
among_filter p [] b = grind (arith, nat_tests)
among_filter p (x ∷ bs) b = let ih = among_filter p bs b in grind (arith, nat_tests)
