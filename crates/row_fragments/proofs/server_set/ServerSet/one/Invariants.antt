use Rattle.std.proofs.Common.{◌≡◌, ℕ, false, ltb, get_or}
use Rattle.std.specs.Prelude.{◌&&◌, nat_eq}
use Rattle.row_fragments.proofs.server_set.ServerSet.one.Given as goal

abbrev pub invariant-loop-number : goal.invariant-loop-number
invariant-loop-number l = (t : ℕ) → get_or l.member-items t false ≡ (ltb t l.number && nat_eq l.server t)
