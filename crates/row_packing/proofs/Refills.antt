-- Servers filled again.
use Rattle.std.proofs.Common.{◌≡◌, ℕ, zero, suc, ◌+◌, ◌-◌, ◌<◌, List, [], ◌∷◌, set, refl, arith}
use Rattle.std.specs.Prelude.{not, filter, nat_eq}
use Rattle.std.proofs.lemmas.Bool.Decides.{nat_tests}
use Rattle.std.specs.List.{range_with_len}
use Rattle.geometry.specs.Keys.{key_number}
use Rattle.server.specs.Meaning.{Meaning, store_after}
use Rattle.row.specs.Rows.{at, nobody}
use Rattle.row_packing.specs.Fetches.{others, put_together}
use Rattle.row_packing.specs.Refills.{OthersStay, refilled}
use Rattle.row_packing.proofs.Counts.{left_more}

-- a server that is changed, where a number that is not in the row stays nobody
pub at_set : (f : Meaning → Meaning) → nobody ≡ f nobody → (row : List Meaning) (s : ℕ) → at (set row s (f (at row s))) s ≡ f (at row s)
at_set f e [] zero = e
at_set f e [] (suc s) = e
at_set f e (m ∷ row) zero = refl
at_set f e (m ∷ row) (suc s) = at_set f e row s

together_leaving : (s : ℕ) (was after : List Meaning) (k : ℕ) → OthersStay s was after → (ts : List ℕ) → put_together after k (filter (λ t. not (nat_eq s t)) ts) ≡ put_together was k (filter (λ t. not (nat_eq s t)) ts)
together_leaving s was after k same [] = refl
together_leaving s was after k same (t ∷ ts) = let others = together_leaving s was after k same ts in grind (arith, nat_tests, same t)

pub together_same : (n s : ℕ) (was after : List Meaning) (k : ℕ) → OthersStay s was after → put_together after k (others n s) ≡ put_together was k (others n s)
together_same n s was after k same = together_leaving s was after k same (range_with_len 0 n)

pub refilled_same : (n s client : ℕ) (was after : List Meaning) → OthersStay s was after → (js : List ℕ) (m : Meaning) → refilled after n s client js m ≡ refilled was n s client js m
refilled_same n s client was after same [] m = refl
refilled_same n s client was after same (j ∷ js) m = rw (together_same n s was after (key_number client j) same) (refilled_same n s client was after same js _)

-- one stripe more
pub refilled_more : (was now' : List Meaning) (n s client i count : ℕ) (m m' : Meaning) → i < count → OthersStay s was now' → m' ≡ store_after m (key_number client i) (put_together now' (key_number client i) (others n s)) → refilled was n s client (range_with_len (i + 1) (count - (i + 1))) m' ≡ refilled was n s client (range_with_len i (count - i)) m
refilled_more was now' n s client i count m m' h same e = rw (left_more i count h, e, together_same n s was now' (key_number client i) same)
