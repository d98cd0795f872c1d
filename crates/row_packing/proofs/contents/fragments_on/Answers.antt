use Rattle.std.proofs.Common.{◌∙◌, arith}
use Rattle.std.proofs.lemmas.Grind.{common_steps}
use Rattle.std.proofs.lemmas.List.FromFn.{map-range_with_len_more}
use Rattle.row.specs.Rows.{at}
use Rattle.row_packing.specs.Contents.{bytes_of_stripe}
use Rattle.row_packing.proofs.Fetches.{found}
use Rattle.row_packing.proofs.contents.fragments_on.Goals as goal

pub loop-number-preserved : goal.loop-number-preserved
loop-number-preserved g c =
    let l = c.loop-number in
    let was = g.R.ServerRow.meanings c.args.boxes.now in
    let log = c.args.log in
    let answer = rw (l.invariant.same, c.in_ok-stripe.ensures.key) at c.in_ok-get_fragment.ensures.fragment in
    let bytes = found (at was c.args.server) _ _ _ answer in
    let more = map-range_with_len_more (bytes_of_stripe was log.client c.args.server) 0 l.number l.number (omega arith) in
    record {
      same = c.get_fragment.ensures.after ∙ l.invariant.same;
      coherent = λ t h. c.get_fragment.ensures.coherent t (l.invariant.coherent t h);
      fragments = grind (arith, common_steps);
    }
