-- Stores one after another.
use Rattle.std.proofs.Common.{◌≡◌, ℕ, ◌+◌, ◌-◌, ◌<◌, List, [], ◌∷◌, map, Ok, Err, Result, refl}
use Rattle.std.specs.List.{range_with_len}
use Rattle.ordered.specs.declared.fault.MapFault.{MapFault}
use Rattle.server.specs.Meaning.{Meaning}
use Rattle.row.specs.declared.change.Change.{Change}
use Rattle.row.specs.Changes.{changed, applied}
use Rattle.row_packing.specs.Stores.{answer_on, onward, stores_answer, stores_after}
use Rattle.row_packing.proofs.Counts.{left_more}

-- where none is refused, all are made
pub all_stored : (cs : List Change) (row : List Meaning) → stores_answer cs row ≡ Ok tt → stores_after cs row ≡ applied cs row
all_stored [] row e = refl
all_stored (c ∷ cs) row e = by (answer_on row c) e (all_stored cs (changed row c))
  where
    by : (a : Result (Unit {0}) MapFault) → onward a (stores_answer cs (changed row c)) Err ≡ Ok tt → (stores_answer cs (changed row c) ≡ Ok tt → stores_after cs (changed row c) ≡ applied cs (changed row c)) → onward a (stores_after cs (changed row c)) (λ _. changed row c) ≡ applied cs (changed row c)
    by (Ok u) h on = on h
    by (Err f) h on = cc

module _ (f : ℕ → Change) (i n : ℕ) (h : i < n) (row after : List Meaning) (r : after ≡ changed row (f i)) where
  abbrev from : ℕ → List Change
  from j = map f (range_with_len j (n - j))

  -- one that is accepted
  pub goes_on : (u : Unit {0}) → answer_on row (f i) ≡ Ok u → (stores_answer (from (i + 1)) after ≡ stores_answer (from i) row) × (stores_after (from (i + 1)) after ≡ stores_after (from i) row)
  goes_on u e = rw (left_more i n h, e, r) (refl, refl)

  -- one that is refused
  pub stops : (fault : MapFault) → answer_on row (f i) ≡ Err fault → (Err fault ≡ stores_answer (from i) row) × (after ≡ stores_after (from i) row)
  stops fault e = rw (left_more i n h, e, r) (refl, refl)
