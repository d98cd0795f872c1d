-- Keys that are noted, and their numbers.
use Rattle.std.proofs.Common.{◌≡◌, ℕ, ◌+◌, ◌*◌, ◌^◌, ◌<◌, Bool, ◌&&◌, ◌||◌, nat_eq, List, [], ◌∷◌, map, refl, ap, ◌∙◌, arith}
use Rattle.std.specs.List.{list_any}
use Rattle.std.proofs.lemmas.Bool.Decides.{nat_tests}
use Rattle.geometry.specs.declared.key.Key.{Key}
use Rattle.geometry.specs.Keys.{number_of}
use Rattle.rack.specs.Lists.{is_among}

-- keys are equal by their parts where their numbers are
same_number : (c s d t : ℕ) → s < 2 ^ 32 → t < 2 ^ 32 → (nat_eq c d && nat_eq s t) ≡ nat_eq (c * 2 ^ 32 + s) (d * 2 ^ 32 + t)
same_number c s d t h k = grind (arith, nat_tests)

abbrev same_key : Key → Key → Bool
same_key key other = nat_eq other.client key.client && nat_eq other.stripe key.stripe

pub among_noted : (keys : List Key) (key : Key) → list_any (same_key key) keys ≡ is_among (map number_of keys) (number_of key)
among_noted [] key = refl
among_noted (x ∷ xs) key =
    ap (λ b. b || list_any (same_key key) xs) (same_number x.client x.stripe key.client key.stripe x.narrow key.narrow)
    ∙ ap (λ b. nat_eq (number_of x) (number_of key) || b) (among_noted xs key)
