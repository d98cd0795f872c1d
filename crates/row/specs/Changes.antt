-- What changes leave on a row.
use Rattle.std.specs.Prelude.{◌≡◌, ℕ, ◌+◌, if◌then◌else◌, List, [], ◌∷◌, length, take, drop, ◌≢◌, nat_lt, slice_set, Ok, Err, Result}
use Rattle.geometry.specs.Keys.{number_of}
use Rattle.server.specs.Meaning.{Meaning, store_after, delete_after, wipe_after}
use Rattle.row.specs.declared.change.Change.{Change}
use Rattle.row.specs.declared.change.Change.TheVariants.{Store, Delete, Wipe}
use Rattle.row.specs.declared.change.Cut.{Cut}
use Rattle.row.specs.Rows.{at}

-- a change by numbers: the server, then the key's number
pub data Step : Type 0 where
  StoreStep : ℕ → ℕ → List ℕ → Step
  DeleteStep : ℕ → ℕ → Step
  WipeStep : ℕ → Step

abbrev pub stepped : List Meaning → Step → List Meaning
stepped row (StoreStep s k bytes) = slice_set row s (store_after (at row s) k bytes)
stepped row (DeleteStep s k) = slice_set row s (delete_after (at row s) k)
stepped row (WipeStep s) = slice_set row s (wipe_after (at row s))

-- one step after another
abbrev pub stepped_all : List Step → List Meaning → List Meaning
stepped_all [] row = row
stepped_all (c ∷ cs) row = stepped_all cs (stepped row c)

abbrev pub step_of : Change → Step
step_of (Store s key bytes) = StoreStep s (number_of key) bytes
step_of (Delete s key) = DeleteStep s (number_of key)
step_of (Wipe s) = WipeStep s

abbrev pub changed : List Meaning → Change → List Meaning
changed row c = stepped row (step_of c)

-- one change after another
abbrev pub applied : List Change → List Meaning → List Meaning
applied [] row = row
applied (c ∷ cs) row = applied cs (changed row c)

abbrev pub made_of : ℕ → List Change → Result (Unit {0}) Cut
made_of budget cs = if nat_lt budget (length cs) then Err (record {}) else Ok tt

-- the first j changes and then the next k are the first j + k
abbrev pub ChangesAddUp : Type 0
ChangesAddUp =
    (cs : List Change) (row : List Meaning) (j k : ℕ)
    → applied (take k (drop j cs)) (applied (take j cs) row) ≡ applied (take (j + k) cs) row

-- the server that a change is made on
abbrev pub server_in : Change → ℕ
server_in (Store s key bytes) = s
server_in (Delete s key) = s
server_in (Wipe s) = s

-- a change on one server leaves all others
abbrev pub OthersStay : Type 0
OthersStay =
    (row : List Meaning) (c : Change) (s : ℕ) → (s ≢ server_in c) → at (changed row c) s ≡ at row s
