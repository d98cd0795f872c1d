-- The low tyres among a map's entries.
use Rattle.std.proofs.Common.{◌≡◌, true, false, cond, List, [], ◌∷◌, map, filter, Some, None, Option, refl, arith, ap, ◌∙◌}
use Rattle.std.specs.Map.{keys_of, lookup}
use Rattle.std.specs.List.{AllByRecursion}
use Rattle.std.specs.Option.{option_map}
use Rattle.std.specs.Cmp.{eq_by_cmp_equiv}
use Rattle.std.specs.Ordering.{eq_by_cmp}
use Rattle.std.specs.List.Sorted.{IsStrictlySortedBy}
use Rattle.std.specs.BTreeMap.{IsOrdered}
use Rattle.std.proofs.lemmas.Map.Entries.{option_filter, lookup-filter-values}
use Rattle.std.proofs.lemmas.Map.Keys.{IsDistinct-from_sorted}
use Rattle.std.proofs.lemmas.Simd.{map-map}
use Rattle.workshop.specs.declared.low.LowTyre.{LowTyre}
use Rattle.workshop.specs.declared.newest.Newest.{Newest}
use Rattle.workshop.specs.declared.newest.Noted.{Noted}
use Rattle.workshop.specs.declared.tyre.TyreId.{TyreId}
use Rattle.workshop.specs.Pressures.{is_low}
use Rattle.workshop.specs.Tyres.{by_tyre, by_tyre_total}
use Rattle.workshop.specs.Readings.{noted_for, listed, low_in, LowList}

abbrev pub low_entry : TyreId × Noted → LowTyre
low_entry e = record { tyre = e.0; kpa = e.1.kpa }

abbrev pub low_entries : List (TyreId × Noted) → List (TyreId × Noted)
low_entries es = filter (λ e. is_low e.1.kpa) es

listed-map : (es : List (TyreId × Noted)) (q : TyreId) → listed (map low_entry es) q ≡ option_map (λ n. n.kpa) (lookup (eq_by_cmp by_tyre q) es)
listed-map [] q = refl
listed-map (e ∷ es) q = let others = listed-map es q in grind arith

low_in-filter : (o : Option Noted) → option_map (λ n. n.kpa) (option_filter (λ n. is_low n.kpa) o) ≡ low_in o
low_in-filter None = refl
low_in-filter (Some n) = grind arith

all_low : (P : TyreId → Type 0) (es : List (TyreId × Noted)) → AllByRecursion P (keys_of es) → AllByRecursion P (keys_of (low_entries es))
all_low P [] a = tt
all_low P (e ∷ es) a =
    elim (is_low e.1.kpa) as (λ b. AllByRecursion P (keys_of (cond b (e ∷ low_entries es) (low_entries es))))
    [ true ↦ (a.0, all_low P es a.1) | false ↦ all_low P es a.1 ]

sorted_low : (es : List (TyreId × Noted)) → IsStrictlySortedBy by_tyre (keys_of es) → IsStrictlySortedBy by_tyre (keys_of (low_entries es))
unfolding IsStrictlySortedBy
sorted_low [] s = tt
sorted_low (e ∷ es) s =
    elim (is_low e.1.kpa) as (λ b. IsStrictlySortedBy by_tyre (keys_of (cond b (e ∷ low_entries es) (low_entries es))))
    [ true ↦ (all_low _ es s.0, sorted_low es s.1) | false ↦ sorted_low es s.1 ]

pub low_list : (m : Newest) → IsOrdered by_tyre m.noted → LowList m (map low_entry (low_entries m.noted.entries))
low_list m s =
    let es = m.noted.entries in
    record {
      each = λ q. listed-map (low_entries es) q
          ∙ ap (option_map (λ n. n.kpa)) (lookup-filter-values (eq_by_cmp_equiv by_tyre_total) (λ n. is_low n.kpa) q es (IsDistinct-from_sorted by_tyre (keys_of es) s))
          ∙ low_in-filter (noted_for m q);
      sorted = rw map-map (sorted_low es s);
    }
