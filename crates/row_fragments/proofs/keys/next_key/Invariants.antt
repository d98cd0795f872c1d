use Rattle.std.proofs.Common.{◌≡◌}
use Rattle.geometry.specs.Keys.{number_of, number_in}
use Rattle.row.specs.Rows.{StaysCoherent}
use Rattle.rack.specs.Lists.{lower}
use Rattle.row_fragments.specs.Servers.{servers_in}
use Rattle.row_fragments.proofs.Servers.{left_at}
use Rattle.row_fragments.proofs.KeysHeld.{lowest_from}
use Rattle.row_fragments.proofs.keys.next_key.Given as goal

-- the least so far, with the servers that are left, is the least of all
abbrev pub invariant-loop-server : goal.invariant-loop-server
invariant-loop-server g l =
    let was = g.R.ServerRow.meanings l.initial.row in
    let k = number_of l.from in
    record {
      same : g.R.ServerRow.meanings l.row ≡ was;
      coherent : StaysCoherent (g.R.ServerRow.coherent l.initial.row) (g.R.ServerRow.coherent l.row);
      whole : lower (number_in l.least) (lowest_from was k (left_at l.fn.servers.members l.server)) ≡ lowest_from was k (servers_in l.fn.servers);
    }
