-- The order of tyres: by truck, then by the number on the truck.
use Rattle.std.specs.Prelude.{◌≡◌, ℕ, ◌<◌, ◌⊎◌, refl}
use Rattle.std.specs.declared.cmp.Ordering.TheVariants.{Less, Equal, Greater}
use Rattle.std.specs.declared.cmp.Ordering.{Ordering}
use Rattle.std.proofs.Common.{inl, inr, ap, ◌∙◌}
use Rattle.std.specs.Cmp.{IsTotalOrder, nat_cmp_total, nat_cmp_is, ranks, on_total, then_total}
use Rattle.std.specs.Ordering.{MatchOrdering, nat_cmp, ordering_then}
use Rattle.workshop.specs.declared.tyre.TyreId.{TyreId}
use Rattle.workshop.specs.contracts.tyre.TyreIdOrd.TheImpl as tyre_ord

-- what the derived order of tyres may answer
abbrev pub ByTyre : TyreId → TyreId → Ordering → Type 0
ByTyre x y r =
    ((x.truck < y.truck) × (r ≡ Less))
    ⊎ (((y.truck < x.truck) × (r ≡ Greater))
    ⊎ ((x.truck ≡ y.truck) × MatchOrdering r (x.tyre < y.tyre) (x.tyre ≡ y.tyre) (y.tyre < x.tyre)))

abbrev pub numbers : TyreId → ℕ × ℕ
numbers t = (t.truck, t.tyre)

-- what it answers: the order of the pairs of numbers
abbrev pub by_tyre : TyreId → TyreId → Ordering
by_tyre x y = ordering_then (nat_cmp (numbers x).0 (numbers y).0) (nat_cmp (numbers x).1 (numbers y).1)

-- the derived order is this function
pub derived : (x y : TyreId) → (tyre_ord.ghosts).cmp x y ≡ by_tyre x y
derived x y = refl

-- it is the one answer that ByTyre allows
pub says : (x y : TyreId) (r : Ordering) → ByTyre x y r → r ≡ by_tyre x y
says x y r (inl h) = h.1 ∙ ap (λ o. ordering_then o (nat_cmp x.tyre y.tyre)) (nat_cmp_is x.truck y.truck Less h.0)
says x y r (inr (inl h)) = h.1 ∙ ap (λ o. ordering_then o (nat_cmp x.tyre y.tyre)) (nat_cmp_is x.truck y.truck Greater h.0)
says x y r (inr (inr h)) = nat_cmp_is x.tyre y.tyre r h.1 ∙ ap (λ o. ordering_then o (nat_cmp x.tyre y.tyre)) (nat_cmp_is x.truck y.truck Equal h.0)

-- and ByTyre allows it
pub answers : (x y : TyreId) → ByTyre x y (by_tyre x y)
answers x y = by (nat_cmp x.truck y.truck) (ranks x.truck y.truck)
  where
    by : (o : Ordering) → MatchOrdering o (x.truck < y.truck) (x.truck ≡ y.truck) (y.truck < x.truck) → ByTyre x y (ordering_then o (nat_cmp x.tyre y.tyre))
    by Less h = inl (h, refl)
    by Equal h = inr (inr (h, ranks x.tyre y.tyre))
    by Greater h = inr (inl (h, refl))

-- it is a total order
pub by_tyre_total : IsTotalOrder by_tyre
by_tyre_total = then_total (on_total (λ t. (numbers t).0) nat_cmp_total) (on_total (λ t. (numbers t).1) nat_cmp_total)
