-- The live slots of a stripe, noted slot by slot.
use Rattle.std.specs.Prelude.{◌≡◌, ℕ, ◌/◌, ◌%◌, Bool, List, map}
use Rattle.std.specs.List.{range_with_len}
use Rattle.geometry.specs.Sizes.{slots_in_fragment, most_slots}
use Rattle.rack.specs.Entries.{Entry}
use Rattle.rack.specs.Gathering.{is_live}

abbrev pub is_live_at : List Entry → ℕ → ℕ → Bool
is_live_at es k j = is_live es k (j / slots_in_fragment) (j % slots_in_fragment)

-- which slots of the stripe of k are live, on the longest row; shut, since it is long when it computes
unfoldable pub live_marks : List Entry → ℕ → List Bool
live_marks es k = map (is_live_at es k) (range_with_len 0 most_slots)

-- what holds where these marks are those of a stripe
abbrev pub OfStripe : List Bool → (List Entry → ℕ → Type 0) → Type 0
OfStripe marks P = (es : List Entry) (k : ℕ) → marks ≡ live_marks es k → P es k
