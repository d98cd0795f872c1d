-- Pairs (version, moves), compared by version, then by moves.
use Rattle.std.specs.Prelude.{Bool, ◌&&◌, ◌||◌, ◌==◌, nat_lt}
use Rattle.fragment.specs.declared.pair.Pair.{Pair}
use Rattle.fragment.specs.declared.delta.Delta.{Delta}

abbrev pub beats : Pair → Pair → Bool
beats p q = nat_lt q.version p.version || (p.version == q.version && nat_lt q.moves p.moves)

abbrev pub pair_of : Delta → Pair
pair_of d = record { version = d.version; moves = d.moves }
