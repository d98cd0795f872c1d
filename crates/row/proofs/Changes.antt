-- Changes made one after another.
use Rattle.std.proofs.Common.{◌≡◌, ℕ, ◌+◌, ◌<◌, List, [], ◌∷◌, ◌++◌, length, get_or, take, drop, sym, refl, ap, ◌∙◌, take-add}
use Rattle.std.proofs.lemmas.List.{take_more}
use Rattle.server.specs.Meaning.{Meaning}
use Rattle.row.specs.declared.change.Change.{Change}
use Rattle.row.specs.Changes.{changed, applied, ChangesAddUp}

applied_append : (cs ds : List Change) (row : List Meaning) → applied (cs ++ ds) row ≡ applied ds (applied cs row)
applied_append [] ds row = refl
applied_append (c ∷ cs) ds row = applied_append cs ds (changed row c)

pub changes_add_up : ChangesAddUp
changes_add_up cs row j k = sym (ap (λ t. applied t row) (take-add j k cs) ∙ applied_append (take j cs) (take k (drop j cs)) row)

-- one change more
pub applied_more : (cs : List Change) (row : List Meaning) (i : ℕ) (c : Change) → i < length cs → applied (take (i + 1) cs) row ≡ changed (applied (take i cs) row) (get_or cs i c)
applied_more cs row i c h = ap (λ t. applied t row) (take_more cs i c h) ∙ applied_append (take i cs) (get_or cs i c ∷ []) row
