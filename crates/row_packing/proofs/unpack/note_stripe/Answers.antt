use Rattle.std.proofs.Common.{◌-◌, ◌<◌, ◌∙◌, arith}
use Rattle.geometry.specs.Keys.{number_of}
use Rattle.row_packing.specs.Readings.{fragment_readings}
use Rattle.row_packing.proofs.Fetches.{given}
use Rattle.row_packing.proofs.Notes.{notes_more}
use Rattle.row_packing.proofs.unpack.note_stripe.Goals as goal

pub loop-index-preserved : goal.loop-index-preserved
loop-index-preserved g c =
    let was = g.R.ServerRow.meanings c.args.boxes.now in
    let n = c.args.stripe.row.servers in
    let k = number_of c.args.stripe.key in
    let l = c.loop-index in
    let h : l.index < n - 1 = omega arith in
    let fetched = rw (l.invariant.same, c.data_server.ensures) at (given _ c.in_ok-fragment.fragment _ c.in_ok-fragment.ensures.fragment).1 in
    let noted = rw fetched at c.in_ok-note_fragment.ensures in
    record {
      same = c.get_fragment.ensures.after ∙ l.invariant.same;
      coherent = λ s b. c.get_fragment.ensures.coherent s (l.invariant.coherent s b);
      noted = λ q. notes_more (fragment_readings was n c.args.missing k) l.index (n - 1) l.newest c.note_fragment.new.newest h noted q ∙ l.invariant.noted q;
    }
