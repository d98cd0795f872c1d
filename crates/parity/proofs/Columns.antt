-- Summing a column of fragments: the w bytes of each from place i on.
use Rattle.std.proofs.Common.{◌≡◌, ℕ, ◌+◌, ◌-◌, ◌<◌, ◌≤◌, List, [], length, get_or, drop, sym, ◌∙◌, arith}
use lib.Bits.{bit_xor}
use lib.Lanes.{chunk}
use Rattle.std.proofs.lemmas.List.{at_drop_more, drop_all, drop-replicate, take-replicate}
use Rattle.std.proofs.ByRecursion.{All-drop, All-from_get_or}
use Rattle.geometry.specs.Sizes.{fragment_length}
use Rattle.parity.specs.Xor.{xored, xor_all, Long}
use Rattle.parity.proofs.Xors.{xored_assoc, xored_zeros, length-xor_all}
use Rattle.parity.proofs.Zips.{chunk_zip2}

-- one fragment more
pub column_more : (i w : ℕ) (sum : List ℕ) (fs : List (List ℕ)) (k : ℕ) → ((j : ℕ) → j < length fs → Long (get_or fs j [])) → k < length fs → xored (xored sum (chunk i w (get_or fs k []))) (chunk i w (xor_all (drop (k + 1) fs))) ≡ xored sum (chunk i w (xor_all (drop k fs)))
column_more i w sum fs k each h =
    let rest : List ℕ = xor_all (drop (k + 1) fs) in
    let long = each k h ∙ sym (length-xor_all (drop (k + 1) fs) (All-drop Long (k + 1) fs (All-from_get_or Long fs [] each))) in
    rw (xored_assoc, at_drop_more xor_all fs k [] h, chunk_zip2 bit_xor i w (get_or fs k []) rest long)

-- no fragment is left
pub column_all : (i w : ℕ) (sum : List ℕ) (fs : List (List ℕ)) (k : ℕ) → length sum ≡ w → i + w ≤ fragment_length → length fs ≤ k → xored sum (chunk i w (xor_all (drop k fs))) ≡ sum
column_all i w sum fs k l h e =
    rw (drop_all k fs e, drop-replicate {X = ℕ} i fragment_length 0, take-replicate {X = ℕ} w (fragment_length - i) 0 (omega arith)) (xored_zeros w sum l)
