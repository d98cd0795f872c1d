use Rattle.std.proofs.Common.{◌∙◌}
use Rattle.row.specs.Rows.{at}
use Rattle.row_packing.proofs.Refills.{refilled_more}
use Rattle.row_packing.proofs.refill.restore_all.Goals as goal

pub loop-number-preserved : goal.loop-number-preserved
loop-number-preserved g c =
    let was = g.R.ServerRow.meanings c.args.boxes.now in
    let l = c.loop-number in
    let now' = g.R.ServerRow.meanings l.boxes in
    let log = c.args.log in
    let s = c.args.server in
    let here = rw (c.in_ok-stripe.ensures.row, c.in_ok-stripe.ensures.key) at c.in_ok-restore.ensures.here in
    record {
      others = λ t h. c.restore.ensures.others t h ∙ l.invariant.others t h;
      here = refilled_more was now' log.row.servers s log.client l.number log.stripes (at now' s) _ c.loop-number-test.true l.invariant.others here ∙ l.invariant.here;
      coherent = λ t h. c.restore.ensures.coherent t (l.invariant.coherent t h);
    }
