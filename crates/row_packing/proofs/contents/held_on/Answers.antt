use Rattle.std.proofs.Common.{◌∙◌, arith}
use Rattle.std.proofs.lemmas.Grind.{common_steps}
use Rattle.std.proofs.lemmas.List.FromFn.{filter_of_map_range_with_len_more}
use Rattle.geometry.specs.Keys.{key_number}
use Rattle.server.specs.Meaning.{holds}
use Rattle.row.specs.Rows.{at}
use Rattle.row_packing.proofs.contents.held_on.Goals as goal
use Rattle.row_packing.proofs.contents.held_on.Goals.{then-holds+in_ok-push, else-holds}

pub loop-number-preserved : goal.loop-number-preserved
loop-number-preserved g c =
    let l = c.loop-number in
    let held = at (g.R.ServerRow.meanings c.args.boxes.now) c.args.server in
    let answer = rw (l.invariant.same, c.in_ok-key.ensures.key) at c.holds.ensures.answer in
    let more = filter_of_map_range_with_len_more (holds held) (key_number c.args.log.client) 0 l.number l.number (omega arith) in
    record {
      same = c.holds.ensures.after ∙ l.invariant.same;
      coherent = λ t h. c.holds.ensures.coherent t (l.invariant.coherent t h);
      held = elim c.if-holds.branch [
        | then-holds+in_ok-push w ↦ grind (arith, common_steps)
        | else-holds w ↦ grind (arith, common_steps)
      ];
    }
