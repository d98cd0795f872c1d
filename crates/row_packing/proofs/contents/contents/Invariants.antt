use Rattle.std.proofs.Common.{◌≡◌, map}
use Rattle.std.specs.List.{range_with_len}
use Rattle.geometry.specs.Keys.{number_of}
use Rattle.row.specs.Rows.{StaysCoherent}
use Rattle.row_packing.specs.Contents.{held_of}
use Rattle.row_packing.proofs.contents.contents.Given as goal

abbrev pub invariant-loop-server : goal.invariant-loop-server
invariant-loop-server g l =
    let was = g.R.ServerRow.meanings l.initial.boxes in
    record {
      same : g.R.ServerRow.meanings l.boxes ≡ was;
      coherent : StaysCoherent (g.R.ServerRow.coherent l.initial.boxes) (g.R.ServerRow.coherent l.boxes);
      held : map (λ keys. map number_of keys.items) l.servers.items ≡ map (held_of was l.log.client l.log.stripes) (range_with_len 0 l.server);
    }
