use Rattle.std.proofs.Common.{◌∙◌}
use Rattle.geometry.specs.Keys.{key_number}
use Rattle.row_packing.specs.Readings.{stripe_readings}
use Rattle.row_packing.proofs.Notes.{notes_more}
use Rattle.row_packing.proofs.unpack.read_back.Goals as goal

pub loop-number-preserved : goal.loop-number-preserved
loop-number-preserved g c =
    let was = g.R.ServerRow.meanings c.args.boxes.now in
    let l = c.loop-number in
    let log = c.args.log in
    let noted = rw (l.invariant.same, c.in_ok-stripe.ensures.row, c.in_ok-stripe.ensures.key) at c.in_ok-note_stripe.ensures.noted in
    record {
      same = c.note_stripe.ensures.after ∙ l.invariant.same;
      coherent = λ s b. c.note_stripe.ensures.coherent s (l.invariant.coherent s b);
      noted = λ q. notes_more (λ j. stripe_readings was log.row.servers c.args.missing (key_number log.client j)) l.number log.stripes l.newest c.note_stripe.new.newest c.loop-number-test.true noted q ∙ l.invariant.noted q;
    }
