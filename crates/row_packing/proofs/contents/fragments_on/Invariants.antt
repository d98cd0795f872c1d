use Rattle.std.proofs.Common.{◌≡◌, Some, map}
use Rattle.std.specs.List.{range_with_len}
use Rattle.row.specs.Rows.{StaysCoherent}
use Rattle.row_packing.specs.Contents.{bytes_of_stripe}
use Rattle.row_packing.proofs.contents.fragments_on.Given as goal

abbrev pub invariant-loop-number : goal.invariant-loop-number
invariant-loop-number g l =
    let was = g.R.ServerRow.meanings l.initial.boxes in
    record {
      same : g.R.ServerRow.meanings l.boxes ≡ was;
      coherent : StaysCoherent (g.R.ServerRow.coherent l.initial.boxes) (g.R.ServerRow.coherent l.boxes);
      fragments : map Some l.fragments.items ≡ map (bytes_of_stripe was l.log.client l.server) (range_with_len 0 l.number);
    }
