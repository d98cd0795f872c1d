use Rattle.std.proofs.Common.{◌≡◌, ◌-◌, map}
use Rattle.std.specs.List.{range_with_len}
use Rattle.row.specs.Rows.{StaysCoherent}
use Rattle.row_packing.specs.Stores.{store_on, stripe_stores, stores_answer, stores_after}
use Rattle.row_packing.proofs.store.store_stripe.Given as goal

-- what is left to store answers and leaves what the whole does
abbrev pub invariant-loop-server : goal.invariant-loop-server
invariant-loop-server g l =
    let was = g.R.ServerRow.meanings l.initial.boxes in
    let now' = g.R.ServerRow.meanings l.boxes in
    let left = map (store_on l.image) (range_with_len l.server (l.image.stripe.row.servers - l.server)) in
    record {
      answer : stores_answer left now' ≡ stores_answer (stripe_stores l.image) was;
      after : stores_after left now' ≡ stores_after (stripe_stores l.image) was;
      coherent : StaysCoherent (g.R.ServerRow.coherent l.initial.boxes) (g.R.ServerRow.coherent l.boxes);
    }
