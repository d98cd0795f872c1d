-- A walk over the keys that servers hold.
use Rattle.std.specs.Prelude.{◌≡◌, ℕ, ◌+◌, ◌*◌, ◌≤◌, true, List, [], ◌∷◌, Some, None, Option}
use Rattle.geometry.specs.declared.key.Key.{Key}
use Rattle.geometry.specs.Keys.{stripes, number_of}
use Rattle.server.specs.Meaning.{Meaning, holds}
use Rattle.row.specs.Rows.{at}
use Rattle.rack.specs.Lists.{is_among, from_on}
use Rattle.rack.specs.Restarting.{keys_held}
use Rattle.row_fragments.specs.declared.walk.KeyWalk.{KeyWalk}
use Rattle.row_fragments.specs.Servers.{servers_in}

-- the number of the first key that is not passed; where all are, one past the last key's
abbrev pub position : Option Key → ℕ
position (Some key) = number_of key
position None = 8 * stripes

abbrev pub position_after : Option Key → ℕ
position_after (Some key) = number_of key + 1
position_after None = 8 * stripes

abbrev pub walk_at : KeyWalk → ℕ
walk_at w = position w.next

-- the keys that a walk has left on this row
abbrev pub keys_left : List Meaning → KeyWalk → List ℕ
keys_left row w = from_on (walk_at w) (keys_held row (servers_in w.servers))

-- the key that a step gives, and what is left after it; where it gives none, nothing was left
abbrev pub before_rest : Option Key → List ℕ → List ℕ
before_rest (Some key) ks = number_of key ∷ ks
before_rest None ks = []

-- a walk at 0 has every key left
abbrev pub StartsWithAll : Type 0
StartsWithAll = (row : List Meaning) (us : List ℕ) → from_on 0 (keys_held row us) ≡ keys_held row us

-- what a walk has left is told by the keys ahead of it on its servers: changes at keys that it has passed leave it
abbrev pub LeftIsAhead : Type 0
LeftIsAhead =
    (was now' : List Meaning) (us : List ℕ) (p : ℕ)
    → ((u q : ℕ) → is_among us u ≡ true → p ≤ q → holds (at now' u) q ≡ holds (at was u) q)
    → from_on p (keys_held now' us) ≡ from_on p (keys_held was us)
