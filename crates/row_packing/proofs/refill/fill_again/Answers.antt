use Rattle.std.proofs.Common.{refl, ap, ◌∙◌, get_or-set_other}
use Rattle.std.specs.List.{range_with_len}
use Rattle.std.proofs.lemmas.Result.{IfOk-weaker}
use Rattle.server.specs.Meaning.{wipe_after}
use Rattle.row.specs.Rows.{at, nobody}
use Rattle.row_packing.specs.Refills.{OthersStay, refilled}
use Rattle.row_packing.proofs.Refills.{at_set, refilled_same}
use Rattle.row_packing.proofs.refill.fill_again.Goals as goal

pub returns-clause-here : goal.returns-clause-here
returns-clause-here g c =
    let was = g.R.ServerRow.meanings c.args.boxes.now in
    let wiped = g.R.ServerRow.meanings c.wipe.new.self in
    let s = c.args.server in
    let log = c.args.log in
    let n = log.row.servers in
    let js = range_with_len 0 log.stripes in
    let w = c.wipe.ensures.after in
    let same : OthersStay s was wiped = λ t h. ap (λ r. at r t) w ∙ get_or-set_other was s t (wipe_after (at was s)) nobody h in
    let empty = ap (λ r. at r s) w ∙ at_set wipe_after refl was s in
    IfOk-weaker c.restore_all.result _ _
    (λ _ e. e ∙ refilled_same n s log.client was wiped same js (at wiped s) ∙ ap (refilled was n s log.client js) empty)
    c.restore_all.ensures.here
