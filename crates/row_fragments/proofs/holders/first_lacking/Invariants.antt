use Rattle.std.proofs.Common.{◌≡◌}
use Rattle.geometry.specs.Keys.{number_of}
use Rattle.row.specs.Rows.{StaysCoherent}
use Rattle.row_fragments.specs.Lacking.{first_lacking}
use Rattle.row_fragments.specs.Servers.{servers_in}
use Rattle.row_fragments.proofs.Servers.{left_at}
use Rattle.row_fragments.proofs.holders.first_lacking.Given as goal

-- the first of those that are left is the first of all
abbrev pub invariant-loop-server : goal.invariant-loop-server
invariant-loop-server g l =
    let was = g.R.ServerRow.meanings l.initial.row in
    let k = number_of l.key in
    record {
      same : g.R.ServerRow.meanings l.row ≡ was;
      coherent : StaysCoherent (g.R.ServerRow.coherent l.initial.row) (g.R.ServerRow.coherent l.row);
      first : first_lacking was k (left_at l.fn.servers.members l.server) ≡ first_lacking was k (servers_in l.fn.servers);
    }
