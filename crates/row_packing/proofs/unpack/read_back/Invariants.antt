use Rattle.std.proofs.Common.{◌≡◌, ◌-◌}
use Rattle.std.specs.List.{range_with_len, flat_map}
use Rattle.geometry.specs.Keys.{key_number}
use Rattle.row.specs.Rows.{StaysCoherent}
use Rattle.workshop.specs.declared.tyre.TyreId.{TyreId}
use Rattle.workshop.specs.Readings.{noted_for}
use Rattle.row_packing.specs.Readings.{stripe_readings, readings_on, newest_of, newest_among}
use Rattle.row_packing.proofs.unpack.read_back.Given as goal

-- what was noted, with the readings of the stripes that are left, is what there will be
abbrev pub invariant-loop-number : goal.invariant-loop-number
invariant-loop-number g l =
    let was = g.R.ServerRow.meanings l.initial.boxes in
    let log = l.log in
    let n = log.row.servers in
    record {
      same : g.R.ServerRow.meanings l.boxes ≡ was;
      coherent : StaysCoherent (g.R.ServerRow.coherent l.initial.boxes) (g.R.ServerRow.coherent l.boxes);
      noted : (q : TyreId)
          → newest_of (noted_for l.newest q) (flat_map (λ j. stripe_readings was n l.missing (key_number log.client j)) (range_with_len l.number (log.stripes - l.number))) q
          ≡ newest_among (readings_on was n l.missing log.client log.stripes) q;
    }
