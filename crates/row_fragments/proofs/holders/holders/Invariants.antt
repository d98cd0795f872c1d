use Rattle.std.proofs.Common.{◌≡◌, ℕ, false, cond, ltb, get_or}
use Rattle.std.specs.Prelude.{◌&&◌}
use Rattle.geometry.specs.Keys.{number_of}
use Rattle.server.specs.Meaning.{holds}
use Rattle.row.specs.Rows.{at, StaysCoherent}
use Rattle.row_fragments.proofs.holders.holders.Given as goal

abbrev pub invariant-loop-server : goal.invariant-loop-server
invariant-loop-server g l =
    let was = g.R.ServerRow.meanings l.initial.row in
    let member = λ (t : ℕ). get_or l.fn.servers.members t false in
    record {
      same : g.R.ServerRow.meanings l.row ≡ was;
      coherent : StaysCoherent (g.R.ServerRow.coherent l.initial.row) (g.R.ServerRow.coherent l.row);
      marked : (t : ℕ) → get_or l.member-items t false ≡ cond (ltb t l.server) (member t && holds (at was t) (number_of l.key)) (member t);
    }
