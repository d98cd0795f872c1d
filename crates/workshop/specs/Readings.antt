-- The newest reading of each tyre, as a function of the tyre.
use Rattle.std.specs.Prelude.{◌≡◌, ℕ, if◌then◌else◌, List, [], ◌∷◌, map, Some, None, Option, ◌≢◌, nat_lt}
use Rattle.std.specs.BTreeMap.{get}
use Rattle.std.specs.Ordering.{eq_by_cmp}
use Rattle.std.specs.List.Sorted.{IsStrictlySortedBy}
use Rattle.workshop.specs.declared.low.LowTyre.{LowTyre}
use Rattle.workshop.specs.declared.newest.Newest.{Newest}
use Rattle.workshop.specs.declared.newest.Noted.{Noted}
use Rattle.workshop.specs.declared.tyre.TyreId.{TyreId}
use Rattle.workshop.specs.Pressures.{is_low}
use Rattle.workshop.specs.Tyres.{by_tyre}

-- what is noted for a tyre
abbrev pub noted_for : Newest → TyreId → Option Noted
noted_for m tyre = get by_tyre m.noted tyre

-- the newer of what is noted and a further reading
abbrev pub newer : Option Noted → Noted → Noted
newer None new = new
newer (Some old) new = if nat_lt old.version new.version then new else old

-- n has the newer of what m has and this reading for the tyre, and for each other tyre what m has
pub record NotedOnly (m n : Newest) (tyre : TyreId) (new : Noted) : Type 0 where
  pub here : noted_for n tyre ≡ Some (newer (noted_for m tyre) new)
  pub other : (q : TyreId) → (q ≢ tyre) → noted_for n q ≡ noted_for m q

-- n has for each tyre what m has
abbrev pub Unchanged : Newest → Newest → Type 0
Unchanged m n = (q : TyreId) → noted_for n q ≡ noted_for m q

-- two readings of different versions leave the same, in either order
abbrev pub OrderFree : Type 0
OrderFree = (old : Option Noted) (a b : Noted) → (a.version ≢ b.version) → newer (Some (newer old a)) b ≡ newer (Some (newer old b)) a

-- ---- the list of low tyres

-- what a list says of a tyre
abbrev pub listed : List LowTyre → TyreId → Option ℕ
listed [] tyre = None
listed (low ∷ lows) tyre = if eq_by_cmp by_tyre tyre low.tyre then Some low.kpa else listed lows tyre

-- the pressure, if it is low
abbrev pub low_in : Option Noted → Option ℕ
low_in None = None
low_in (Some noted) = if is_low noted.kpa then Some noted.kpa else None

-- a tyre is listed just if its newest reading is low, with that pressure; each once, by truck, then by tyre
pub record LowList (m : Newest) (lows : List LowTyre) : Type 0 where
  pub each : (tyre : TyreId) → listed lows tyre ≡ low_in (noted_for m tyre)
  pub sorted : IsStrictlySortedBy by_tyre (map (λ low. low.tyre) lows)
