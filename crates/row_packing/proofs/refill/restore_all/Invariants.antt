use Rattle.std.proofs.Common.{◌≡◌, ◌-◌}
use Rattle.std.specs.List.{range_with_len}
use Rattle.row.specs.Rows.{at, StaysCoherent}
use Rattle.row_packing.specs.Refills.{OthersStay, refilled}
use Rattle.row_packing.proofs.refill.restore_all.Given as goal

-- what is left to store leaves what the whole does
abbrev pub invariant-loop-number : goal.invariant-loop-number
invariant-loop-number g l =
    let was = g.R.ServerRow.meanings l.initial.boxes in
    let now' = g.R.ServerRow.meanings l.boxes in
    let left = refilled was l.log.row.servers l.server l.log.client in
    record {
      others : OthersStay l.server was now';
      here : left (range_with_len l.number (l.log.stripes - l.number)) (at now' l.server) ≡ left (range_with_len 0 l.log.stripes) (at was l.server);
      coherent : StaysCoherent (g.R.ServerRow.coherent l.initial.boxes) (g.R.ServerRow.coherent l.boxes);
    }
