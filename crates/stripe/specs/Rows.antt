-- A stripe on its row: the parity and the data fragments, one to a server.
use Rattle.std.specs.Prelude.{◌≡◌, ℕ, ◌+◌, ◌-◌, ◌<◌, ◌≤◌, List, [], ◌∷◌, ◌++◌, map, length, take, drop, slice_index_or}
use Rattle.std.specs.List.{range_with_len, AllByRecursion}
use Rattle.geometry.specs.Placement.{steps_on}
use Rattle.parity.specs.Xor.{xor_all, Long}

-- the parity, then the data fragments
abbrev pub pieces : List (List ℕ) → List (List ℕ)
pieces ds = xor_all ds ∷ ds

-- what server s holds of a stripe with these data fragments: they go round from the parity's server
abbrev pub fragment_on : ℕ → ℕ → List (List ℕ) → ℕ → List ℕ
fragment_on n k ds s = slice_index_or (pieces ds) (steps_on n k s) []

-- the fragments of the stripe, server by server
abbrev pub stripe_row : ℕ → ℕ → List (List ℕ) → List (List ℕ)
stripe_row n k ds = map (fragment_on n k ds) (range_with_len 0 n)

-- whichever one server is missing, the exclusive or of the others is its fragment, be it data or parity
abbrev pub MissingIsTheOthers : Type 0
MissingIsTheOthers =
    (n k s : ℕ) (ds : List (List ℕ))
    → 3 ≤ n → length ds ≡ n - 1 → AllByRecursion Long ds → s < n
    → xor_all (take s (stripe_row n k ds) ++ drop (s + 1) (stripe_row n k ds)) ≡ fragment_on n k ds s
