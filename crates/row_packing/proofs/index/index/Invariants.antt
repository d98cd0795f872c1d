use Rattle.std.proofs.Common.{◌≡◌, ◌-◌}
use Rattle.std.specs.List.{range_with_len}
use Rattle.ordered.specs.Lists.{SameMemory}
use Rattle.row.specs.Rows.{StaysCoherent}
use Rattle.manager.specs.Tables.{table_of}
use Rattle.row_packing.specs.Tables.{index_answer, index_after}
use Rattle.row_packing.proofs.index.index.Given as goal

-- what is left to take answers and leaves what the whole does
abbrev pub invariant-loop-number : goal.invariant-loop-number
invariant-loop-number g l =
    let was = g.R.ServerRow.meanings l.initial.boxes in
    let log = l.log in
    let n = log.row.servers in
    let left = range_with_len l.number (log.stripes - l.number) in
    let all = range_with_len 0 log.stripes in
    record {
      same : g.R.ServerRow.meanings l.boxes ≡ was;
      coherent : StaysCoherent (g.R.ServerRow.coherent l.initial.boxes) (g.R.ServerRow.coherent l.boxes);
      memory : SameMemory l.initial.table.list l.table.list;
      answer : index_answer was n l.missing log.client (table_of l.table) left ≡ index_answer was n l.missing log.client (table_of l.initial.table) all;
      after : index_after was n l.missing log.client (table_of l.table) left ≡ index_after was n l.missing log.client (table_of l.initial.table) all;
    }
