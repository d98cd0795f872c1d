-- Where an element stands in an ordered map.
use Rattle.std.specs.Prelude.{ℕ, zero, suc, if◌then◌else◌, List, [], ◌∷◌, Ok, Err, Result, nat_lt}
use Rattle.ordered.specs.Maps.{has}

module _ {X : Type 0} (n : X → ℕ) where
  -- how many elements at the front have a number below k
  abbrev pub place : List X → ℕ → ℕ
  place [] k = zero
  place (x ∷ xs) k = if nat_lt (n x) k then suc (place xs k) else zero

  -- the place of the element that has the number, or the place for it
  abbrev pub sought : List X → ℕ → Result ℕ ℕ
  sought xs k = if has n xs k then Ok (place xs k) else Err (place xs k)
