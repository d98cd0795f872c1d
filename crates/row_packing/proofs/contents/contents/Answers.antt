use Rattle.std.proofs.Common.{◌∙◌, arith}
use Rattle.std.proofs.lemmas.Grind.{common_steps}
use Rattle.std.proofs.lemmas.List.FromFn.{map-range_with_len_more}
use Rattle.row_packing.specs.Contents.{held_of}
use Rattle.row_packing.proofs.contents.contents.Goals as goal

pub loop-server-preserved : goal.loop-server-preserved
loop-server-preserved g c =
    let l = c.loop-server in
    let log = c.args.log in
    let more = map-range_with_len_more (held_of (g.R.ServerRow.meanings c.args.boxes.now) log.client log.stripes) 0 l.server l.server (omega arith) in
    let held = rw l.invariant.same at c.in_ok-held_on.ensures.held in
    record {
      same = c.held_on.ensures.after ∙ l.invariant.same;
      coherent = λ t h. c.held_on.ensures.coherent t (l.invariant.coherent t h);
      held = grind (arith, common_steps);
    }
