-- Walks over a table's entries.
use Rattle.std.proofs.Common.{◌≡◌, ℕ, Bool, if◌then◌else◌, List, [], ◌∷◌, map, Some, None, Ok, Option, refl, arith}
use Rattle.std.specs.List.{list_any, list_all}
use Rattle.std.proofs.lemmas.Bool.Decides.{nat_tests}
use Rattle.fragment.specs.declared.cause.Cause.TheVariants.{BadSlot}
use Rattle.fragment.specs.Slots.{Filled}
use Rattle.rack.specs.Entries.{Entry}
use Rattle.rack.specs.Fragments.{cause_in}
use Rattle.rack.specs.Gathering.{pointing_into}
use Rattle.manager.specs.Pointing.{held_in}

pub any_map : {X Y : Type 0} (p : Y → Bool) (f : X → Y) (xs : List X) → list_any (λ x. p (f x)) xs ≡ list_any p (map f xs)
any_map p f [] = refl
any_map p f (x ∷ xs) = let ih = any_map p f xs in grind (arith, nat_tests)

-- a fragment has no cause where all of its entries are held
pub cause_of_all : (k i : ℕ) (xs : List (Option Filled)) (es : List Entry)
    → cause_in (Ok xs) (pointing_into es k i) ≡ (if list_all (held_in k i xs) es then None else Some BadSlot)
cause_of_all k i xs [] = refl
cause_of_all k i xs (e ∷ es) = let ih = cause_of_all k i xs es in grind (arith, nat_tests)
