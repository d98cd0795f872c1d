-- Fragments fetched.
use Rattle.std.proofs.Common.{◌≡◌, ℕ, cond, is_some, List, Option, Some, None, Ok, Err, Result, refl}
use Rattle.std.specs.Result.{result_and}
use Rattle.ordered.specs.Maps.{find}
use Rattle.parity.specs.Xor.{nought}
use Rattle.server.specs.Meaning.{Meaning, Piece, piece_key, bytes_of, or_else, fetched, bytes_under}
use Rattle.row_packing.specs.Fetches.{lack_answer}

-- what an answer that lets a value through is, and the value
pub given : {A E : Type 0} (a : Result (Unit {0}) E) (x y : A) → Ok x ≡ result_and a (Ok y) → (a ≡ Ok tt) × (x ≡ y)
given (Ok u) x y e = (refl, cc)
given (Err f) x y e = cc

-- what is fetched where it is held is what lies under the key
pub found : (m : Meaning) (k s : ℕ) (x : List ℕ) → Ok x ≡ result_and (lack_answer (cond (is_some (find piece_key m.held k)) None (Some s))) (Ok (fetched m k nought)) → bytes_under m k ≡ Some x
found m k s x e = by (find piece_key m.held k) e
  where
    by : (p : Option Piece) → Ok x ≡ result_and (lack_answer (cond (is_some p) None (Some s))) (Ok (or_else (bytes_of p) nought)) → bytes_of p ≡ Some x
    by (Some p) h = cc
    by None h = cc
