use Rattle.std.proofs.Common.{◌≡◌, length}
use Rattle.geometry.specs.Keys.{number_of}
use Rattle.row.specs.Rows.{StaysCoherent}
use Rattle.rack.specs.Fragments.{together}
use Rattle.row_fragments.specs.Fetches.{unless_lacking}
use Rattle.row_fragments.specs.Lacking.{first_lacking}
use Rattle.row_fragments.specs.Servers.{servers_in}
use Rattle.row_fragments.proofs.Fragments.{summed, HeldBelow}
use Rattle.row_fragments.proofs.Servers.{left_at}
use Rattle.row_fragments.proofs.stripe_fragments.StripeFragments.read.Given as goal

-- the sum so far with the servers that are left is the whole, and the fragments so far are held
abbrev pub invariant-loop-server : goal.invariant-loop-server
invariant-loop-server g l =
    let was = g.R.ServerRow.meanings l.initial.row in
    let k = number_of l.key in
    let us = servers_in l.fn.holders in
    record {
      same : g.R.ServerRow.meanings l.row ≡ was;
      coherent : StaysCoherent (g.R.ServerRow.coherent l.initial.row) (g.R.ServerRow.coherent l.row);
      whole : summed was l.key k l.together (left_at l.fn.holders.members l.server) ≡ unless_lacking (first_lacking was k us) l.key (together was us k);
      long : length l.together ≡ 512;
      places : length l.held ≡ 8;
      held : HeldBelow was k l.fn.holders.members l.server l.held;
    }
