-- The servers of a row by number.
use Rattle.std.specs.Prelude.{◌≡◌, ℕ, ◌+◌, ◌-◌, ◌^◌, ◌<◌, ◌≤◌, min, List, [], ◌++◌, length, take, slice_index_or, slice_set, Some, None, Option}
use Rattle.std.specs.List.{AllByRecursion}
use Rattle.std.proofs.ByRecursion.{All-append, All-take}
use Rattle.server.specs.Meaning.{Meaning, Sound}

-- what a number that is not in the row means: a server with no places
abbrev pub nobody : Meaning
nobody = record { places = 0; held = [] }

abbrev pub at : List Meaning → ℕ → Meaning
at row s = slice_index_or row s nobody

-- the most servers that a count tells of
abbrev pub most : ℕ
most = 2 ^ 64 - 1

abbrev pub count : List Meaning → ℕ
count row = min (length row) most

-- what the servers keep inside, said of each by its number, before and after
abbrev pub StaysCoherent : (ℕ → Type 0) → (ℕ → Type 0) → Type 0
StaysCoherent Before After = (s : ℕ) → Before s → After s

-- Two rows side by side. A left row that is longer than a count can tell is cut there, so that each number means one
-- server.
abbrev pub beside : List Meaning → List Meaning → List Meaning
beside left right = take most left ++ right

-- what holds of server s, where the left row has n servers, P is said of its numbers and Q of the right row's
abbrev pub BySide : ℕ → (ℕ → Type 0) → (ℕ → Type 0) → ℕ → Type 0
BySide n P Q s = (s < n → P s) × (n ≤ s → Q (s - n))

-- what is seen and changed at server s of two rows side by side: the left row's server s, or the right row's server t
abbrev pub OnSide : List Meaning → List Meaning → ℕ → Option ℕ → Type 0
OnSide left right s None =
    (s < count left)
    × (at (beside left right) s ≡ at left s)
    × ((m : Meaning) → beside (slice_set left s m) right ≡ slice_set (beside left right) s m)
OnSide left right s (Some t) =
    (s ≡ count left + t)
    × (at (beside left right) s ≡ at right t)
    × ((m : Meaning) → beside left (slice_set right t m) ≡ slice_set (beside left right) s m)

pub beside_sound : (left right : List Meaning) → AllByRecursion Sound left → AllByRecursion Sound right → AllByRecursion Sound (beside left right)
beside_sound left right p q = All-append Sound (take most left) right (All-take Sound most left p) q
