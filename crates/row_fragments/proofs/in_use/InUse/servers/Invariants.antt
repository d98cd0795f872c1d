use Rattle.std.proofs.Common.{◌≡◌, ℕ, false, not, ltb, get_or, length}
use Rattle.std.specs.Prelude.{◌&&◌}
use Rattle.rack.specs.Worlds.{is_out}
use Rattle.row_fragments.proofs.in_use.InUse.servers.Given as goal

abbrev pub invariant-loop-server : goal.invariant-loop-server
invariant-loop-server l = record {
  long : length l.members ≡ 8;
  marked : (t : ℕ) → get_or l.members t false ≡ (ltb t l.server && not (is_out l.self.out t));
}
