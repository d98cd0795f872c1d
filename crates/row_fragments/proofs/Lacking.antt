-- The first server that lacks a key.
use Rattle.std.proofs.Common.{◌≡◌, ℕ, Bool, true, false, not, cond, List, [], ◌∷◌, Some, None, refl, arith}
use Rattle.std.specs.Option.{option_map, option_or}
use Rattle.std.proofs.lemmas.Bool.Decides.{nat_tests}
use Rattle.ordered.specs.declared.fault.MapFault.TheVariants as map_faults
use Rattle.std.specs.Prelude.{filter}
use Rattle.server.specs.Meaning.{Meaning, holds}
use Rattle.row.specs.Rows.{at}
use Rattle.rack.specs.Faults.{Fault}
use Rattle.rack.specs.Answers.{torn}
use Rattle.rack.specs.Fragments.{torn_among}
use Rattle.row_fragments.specs.Lacking.{first_lacking, TornIsFirst}

pub torn_is_first : TornIsFirst
torn_is_first w k [] = refl
torn_is_first w k (s ∷ us) =
    let here : Fault = torn s k map_faults.Absent in
    let P : Bool → Type 0 = λ b. option_or (cond (not b) (Some here) None) (torn_among w k us) ≡ option_map (λ t. torn t k map_faults.Absent) (cond b (first_lacking w.row k us) (Some s)) in
    elim (holds (at w.row s) k) as P [ true ↦ torn_is_first w k us | false ↦ refl ]

-- none of those that hold the key lacks it
pub none_lacks : (row : List Meaning) (k : ℕ) (us : List ℕ) → first_lacking row k (filter (λ u. holds (at row u) k) us) ≡ None
none_lacks row k [] = refl
none_lacks row k (u ∷ us) = let ih = none_lacks row k us in grind (arith, nat_tests)
