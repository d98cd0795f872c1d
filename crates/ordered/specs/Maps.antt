-- Ordered maps. Each element has a number, by n. A map is a list of elements whose numbers rise strictly, so that one
-- map has one list.
use Rattle.std.specs.Prelude.{◌≡◌, ℕ, suc, Bool, true, if◌then◌else◌, ◌&&◌, List, [], ◌∷◌, is_some, Some, None, Option, ◌==◌, nat_le, nat_lt}

module _ {X : Type 0} (n : X → ℕ) where
  -- the element that has a number
  abbrev pub find : List X → ℕ → Option X
  find [] k = None
  find (x ∷ xs) k = if n x == k then Some x else find xs k

  abbrev pub has : List X → ℕ → Bool
  has xs k = is_some (find xs k)

  -- with an element, new or in place of the one that has its number
  abbrev pub put : List X → X → List X
  put [] e = e ∷ []
  put (x ∷ xs) e = if nat_lt (n x) (n e) then x ∷ put xs e else if n x == n e then e ∷ xs else e ∷ x ∷ xs

  -- without the element that has a number
  abbrev pub without : List X → ℕ → List X
  without [] k = []
  without (x ∷ xs) k = if n x == k then xs else x ∷ without xs k

  -- the element of the least number not below k
  abbrev pub least : List X → ℕ → Option X
  least [] k = None
  least (x ∷ xs) k = if nat_le k (n x) then Some x else least xs k

  -- the numbers rise strictly, and none is below low
  abbrev pub rises_from : ℕ → List X → Bool
  rises_from low [] = true
  rises_from low (x ∷ xs) = nat_le low (n x) && rises_from (suc (n x)) xs

  abbrev pub Rises : List X → Type 0
  Rises xs = rises_from 0 xs ≡ true
