use Rattle.std.proofs.Common.{◌≡◌, map}
use Rattle.geometry.specs.Keys.{number_of}
use Rattle.row.specs.Rows.{StaysCoherent}
use Rattle.row_packing.specs.Contents.{held_of}
use Rattle.row_packing.proofs.contents.held_on.Given as goal

abbrev pub invariant-loop-number : goal.invariant-loop-number
invariant-loop-number g l =
    let was = g.R.ServerRow.meanings l.initial.boxes in
    record {
      same : g.R.ServerRow.meanings l.boxes ≡ was;
      coherent : StaysCoherent (g.R.ServerRow.coherent l.initial.boxes) (g.R.ServerRow.coherent l.boxes);
      held : map number_of l.held.items ≡ held_of was l.log.client l.number l.server;
    }
