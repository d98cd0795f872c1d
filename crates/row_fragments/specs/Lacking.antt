-- Which server lacks a key.
use Rattle.std.specs.Prelude.{◌≡◌, ℕ, if◌then◌else◌, List, [], ◌∷◌, Some, None, Option}
use Rattle.std.specs.Option.{option_map}
use Rattle.ordered.specs.declared.fault.MapFault.TheVariants as map_faults
use Rattle.server.specs.Meaning.{Meaning, holds}
use Rattle.row.specs.Rows.{at}
use Rattle.rack.specs.Worlds.{World}
use Rattle.rack.specs.Answers.{torn}
use Rattle.rack.specs.Fragments.{torn_among}

-- the first of these servers that lacks k
abbrev pub first_lacking : List Meaning → ℕ → List ℕ → Option ℕ
first_lacking row k [] = None
first_lacking row k (s ∷ ss) = if holds (at row s) k then first_lacking row k ss else Some s

-- it is the one that a torn stripe's fault names
abbrev pub TornIsFirst : Type 0
TornIsFirst =
    (w : World) (k : ℕ) (us : List ℕ)
    → torn_among w k us ≡ option_map (λ s. torn s k map_faults.Absent) (first_lacking w.row k us)
