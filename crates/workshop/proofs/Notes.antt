-- Readings that are noted.
use Rattle.std.proofs.Common.{◌≡◌, ℕ, false, Some, Ordering, Less, Equal, Greater, sym, refl, ap, ◌∙◌}
use Rattle.std.specs.BTreeMap.{Updates}
use Rattle.std.specs.Ordering.{eq_by_cmp, is_eq, nat_cmp}
use Rattle.std.proofs.lemmas.Map.Lookups.{exact_pairs, exact_unsigned}
use Rattle.workshop.specs.declared.newest.Newest.{Newest}
use Rattle.workshop.specs.declared.newest.Noted.{Noted}
use Rattle.workshop.specs.declared.tyre.TyreId.{TyreId}
use Rattle.workshop.specs.Tyres.{by_tyre, numbers}
use Rattle.workshop.specs.Readings.{noted_for, newer, NotedOnly}

pub exact : (x y : TyreId) → by_tyre x y ≡ Equal → x ≡ y
exact x y e =
    let tyre : ℕ × ℕ → TyreId = λ p. record { truck = p.0; tyre = p.1 } in
    ap tyre (exact_pairs nat_cmp nat_cmp exact_unsigned exact_unsigned (numbers x) (numbers y) e)

untied : (x y : TyreId) → (x ≡ y → ⊥) → eq_by_cmp by_tyre x y ≡ false
untied x y apart = by (by_tyre x y) refl
  where
    by : (o : Ordering) → by_tyre x y ≡ o → is_eq o ≡ false
    by Less e = refl
    by Equal e = absurd (apart (exact x y e))
    by Greater e = refl

pub stored : (a b : Newest) (k : TyreId) (v : Noted) → Updates by_tyre a.noted b.noted k (Some v) → newer (noted_for a k) v ≡ v → NotedOnly a b k v
stored a b k v put e = record { here = put.1 ∙ ap Some (sym e); other = λ q apart. put.2 q (untied k q (λ h. apart (sym h))) }
