-- What holds of every fragment.
use Rattle.std.specs.Prelude.{◌≡◌, ℕ, ◌+◌, ◌<◌, ◌≤◌, ◌⊎◌, List, [], ◌∷◌, length, Some, Ok, Err, Option, ◌≢◌, slice_index}
use Rattle.std.specs.List.{AllByRecursion}
use Rattle.geometry.specs.Sizes.{fragment_length, slot_length, slots_in_fragment, slot_place}
use Rattle.fragment.specs.declared.cause.Cause.TheVariants.{BadLayout}
use Rattle.fragment.specs.declared.layout.Layout.TheVariants.{One, Two}
use Rattle.geometry.specs.Bytes.{word2}
use Rattle.fragment.specs.Slots.{Filled, Fair, FairSlot, read_slot}
use Rattle.fragment.specs.Heads.{layout_in}
use Rattle.fragment.specs.Fragments.{fragment_bytes, read_fragment, put_slot}

-- what is written reads back as the same slots, and as layout 2
abbrev pub ReadsBack : Type 0
ReadsBack =
    (n k i : ℕ) (a b c : Option Filled)
    → i + 1 < n
    → FairSlot a → FairSlot b → FairSlot c
    → (read_fragment n k i (fragment_bytes n k i (a ∷ b ∷ c ∷ [])) ≡ Ok (a ∷ b ∷ c ∷ []))
    × (layout_in (slice_index (fragment_bytes n k i (a ∷ b ∷ c ∷ [])) 0) ≡ Some Two)

-- so many bytes
abbrev pub Bytes : ℕ → List ℕ → Type 0
Bytes size bs = (length bs ≡ size) × AllByRecursion (λ b. b < 256) bs

-- two fragments of layout 2 that read to the same slots under one key and index are the same bytes
abbrev pub OneForm : Type 0
OneForm =
    (n k i : ℕ) (xs ys : List ℕ) (slots : List (Option Filled))
    → Bytes fragment_length xs → Bytes fragment_length ys
    → layout_in (slice_index xs 0) ≡ Some Two → layout_in (slice_index ys 0) ≡ Some Two
    → read_fragment n k i xs ≡ Ok slots → read_fragment n k i ys ≡ Ok slots
    → xs ≡ ys

-- a slot of layout 1 has its version in its own field, and no moves
abbrev pub OlderSlots : Type 0
OlderSlots =
    (w : List ℕ) (x : Filled) → read_slot One w ≡ Ok (Some x) → (x.delta.version ≡ word2 w 6) × (x.delta.moves ≡ 0)

-- a layout that is neither 1 nor 2 is refused, whatever the rest holds
abbrev pub OtherLayouts : Type 0
OtherLayouts =
    (n k i : ℕ) (bs : List ℕ)
    → (slice_index bs 0 ≢ 1) → (slice_index bs 0 ≢ 2)
    → read_fragment n k i bs ≡ Err BadLayout

-- filling a slot leaves every other byte
abbrev pub OnlyTheSlot : Type 0
OnlyTheSlot =
    (j p : ℕ) (x : Filled) (bs : List ℕ)
    → j < slots_in_fragment → length bs ≡ fragment_length → Fair x
    → (p < slot_place j) ⊎ (slot_place j + slot_length ≤ p)
    → slice_index (put_slot j x bs) p ≡ slice_index bs p
