-- What open stripes of the code mean.
use Rattle.std.specs.Prelude.{ℕ, List, [], ◌∷◌, ◌++◌, map, take}
use Rattle.geometry.specs.Keys.{number_of}
use Rattle.stripe.specs.Means.{slots_in}
use Rattle.rack.specs.Worlds.{Open}
use Rattle.open_stripe.specs.declared.sources.Sources.{Sources}
use Rattle.open_stripe.specs.declared.open.OpenStripe.{OpenStripe}

-- the numbers of the keys noted, in order
abbrev pub sources_of : Sources → List ℕ
sources_of s = map number_of (take s.count s.keys)

abbrev pub open_of : OpenStripe → Open
open_of o = record { begun = o.begun; filled = slots_in o.buffer; sources = sources_of o.sources }

-- an open stripe with one source more
abbrev pub with_source : Open → ℕ → Open
with_source o k = record { begun = o.begun; filled = o.filled; sources = o.sources ++ k ∷ [] }
