-- Words on lists that the definitions share.
use Rattle.std.specs.Prelude.{ℕ, Bool, if◌then◌else◌, min, List, [], ◌∷◌, filter, Some, None, Option, nat_eq, nat_le}
use Rattle.std.specs.Option.{option_or}
use Rattle.std.specs.List.{list_any}
use Rattle.ordered.specs.Maps.{put}

module _ {A : Type 0} where
  -- the first that there is
  abbrev pub first_of : List (Option A) → Option A
  first_of [] = None
  first_of (x ∷ xs) = option_or x (first_of xs)

  abbrev pub when : Bool → A → Option A
  when b x = if b then Some x else None

abbrev pub is_among : List ℕ → ℕ → Bool
is_among xs k = list_any (λ x. nat_eq x k) xs

-- the numbers in order, each once: an ordered map whose elements are their own numbers
abbrev pub in_order : List ℕ → List ℕ
in_order [] = []
in_order (x ∷ xs) = put (λ k. k) (in_order xs) x

-- the numbers from k on
abbrev pub from_on : ℕ → List ℕ → List ℕ
from_on k xs = filter (nat_le k) xs

-- the lower of two numbers, where there are any
abbrev pub lower : Option ℕ → Option ℕ → Option ℕ
lower None o = o
lower (Some x) None = Some x
lower (Some x) (Some y) = Some (min x y)
