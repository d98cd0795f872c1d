use Rattle.std.proofs.Common.{◌≡◌, ℕ, false, cond, ltb, get_or}
use Rattle.std.specs.Prelude.{◌||◌}
use Rattle.row_fragments.proofs.server_set.ServerSet.union.Given as goal

abbrev pub invariant-loop-server : goal.invariant-loop-server
invariant-loop-server l =
    (t : ℕ) → get_or l.member-items t false ≡ cond (ltb t l.server) (get_or l.fn.self.members t false || get_or l.fn.other.members t false) (get_or l.fn.self.members t false)
