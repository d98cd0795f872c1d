use Rattle.std.proofs.Common.{◌≡◌}
use Rattle.geometry.specs.Keys.{number_of}
use Rattle.row.specs.Rows.{StaysCoherent}
use Rattle.row_packing.proofs.Tables.{ReadTo}
use Rattle.row_packing.proofs.index.stripe_deltas.Given as goal

abbrev pub invariant-loop-index : goal.invariant-loop-index
invariant-loop-index g l =
    let was = g.R.ServerRow.meanings l.initial.boxes in
    record {
      same : g.R.ServerRow.meanings l.boxes ≡ was;
      coherent : StaysCoherent (g.R.ServerRow.coherent l.initial.boxes) (g.R.ServerRow.coherent l.boxes);
      read : ReadTo was l.stripe.row.servers l.missing (number_of l.stripe.key) l.index l.deltas;
    }
