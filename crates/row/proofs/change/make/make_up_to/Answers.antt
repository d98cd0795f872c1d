use Rattle.std.proofs.Common.{arith}
use Rattle.row.proofs.Changes.{applied_more, changes_add_up}
use Rattle.row.proofs.change.make.make_up_to.Goals as goal

pub returns-then-done-budget-clause-adds : goal.returns-then-done-budget-clause-adds
returns-then-done-budget-clause-adds g c = changes_add_up

pub loop-done-preserved : goal.loop-done-preserved
loop-done-preserved g c =
    let row = g.R.ServerRow.meanings c.args.row.now in
    let more = applied_more c.args.changes.now row c.loop-done.done c.index-changes-done.result c.loop-done-test.true in
    (omega arith, cc, λ s h. c.make.ensures.coherent s (c.loop-done.invariant.2 s h))

pub returns-clause-adds : goal.returns-clause-adds
returns-clause-adds g c = changes_add_up
