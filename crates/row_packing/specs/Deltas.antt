-- A reading as a write: the truck is the file, the tyre the block.
use Rattle.std.specs.Prelude.{ℕ}
use Rattle.fragment.specs.declared.delta.Delta.{Delta}
use Rattle.fragment.specs.declared.delta.Kind.TheVariants.{Write}
use Rattle.workshop.specs.declared.reading.Reading.{Reading}

abbrev pub delta_for : Reading → ℕ → Delta
delta_for r version = record { kind = Write; file = r.truck; block = r.tyre; version = version; moves = 0 }
