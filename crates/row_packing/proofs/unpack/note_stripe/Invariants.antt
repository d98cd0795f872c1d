use Rattle.std.proofs.Common.{◌≡◌, ◌-◌}
use Rattle.std.specs.List.{range_with_len, flat_map}
use Rattle.geometry.specs.Keys.{number_of}
use Rattle.row.specs.Rows.{StaysCoherent}
use Rattle.workshop.specs.declared.tyre.TyreId.{TyreId}
use Rattle.workshop.specs.Readings.{noted_for}
use Rattle.row_packing.specs.Readings.{fragment_readings, stripe_readings, newest_of}
use Rattle.row_packing.proofs.unpack.note_stripe.Given as goal

-- what was noted, with the readings of the fragments that are left, is what there will be
abbrev pub invariant-loop-index : goal.invariant-loop-index
invariant-loop-index g l =
    let was = g.R.ServerRow.meanings l.initial.boxes in
    let n = l.stripe.row.servers in
    let k = number_of l.stripe.key in
    record {
      same : g.R.ServerRow.meanings l.boxes ≡ was;
      coherent : StaysCoherent (g.R.ServerRow.coherent l.initial.boxes) (g.R.ServerRow.coherent l.boxes);
      noted : (q : TyreId)
          → newest_of (noted_for l.newest q) (flat_map (fragment_readings was n l.missing k) (range_with_len l.index (n - 1 - l.index))) q
          ≡ newest_of (noted_for l.initial.newest q) (stripe_readings was n l.missing k) q;
    }
