-- A server filled again from the others.
use Rattle.std.specs.Prelude.{◌≡◌, ℕ, List, [], ◌∷◌, ◌≢◌}
use Rattle.geometry.specs.Keys.{key_number}
use Rattle.server.specs.Meaning.{Meaning, store_after}
use Rattle.row.specs.Rows.{at}
use Rattle.row_packing.specs.Fetches.{others, put_together}

-- every server but s is as it was
abbrev pub OthersStay : ℕ → List Meaning → List Meaning → Type 0
OthersStay s was after = (t : ℕ) → (t ≢ s) → at after t ≡ at was t

-- server s of a row of n, once its fragments of these stripes are stored, each the exclusive or of the others'
abbrev pub refilled : List Meaning → ℕ → ℕ → ℕ → List ℕ → Meaning → Meaning
refilled row n s client [] m = m
refilled row n s client (j ∷ js) m =
    refilled row n s client js (store_after m (key_number client j) (put_together row (key_number client j) (others n s)))
