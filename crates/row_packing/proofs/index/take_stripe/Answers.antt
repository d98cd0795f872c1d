use Rattle.geometry.specs.Keys.{number_of}
use Rattle.manager.specs.Tables.{table_of}
use Rattle.row_packing.proofs.Tables.{takes_all, takes_none, leaves}
use Rattle.row_packing.proofs.index.take_stripe.Goals as goal

pub returns-in-Ok-clause-answer : goal.returns-in-Ok-clause-answer
returns-in-Ok-clause-answer g c =
    takes_all (table_of c.args.table.now) (number_of c.args.stripe.key) c.in_ok-deltas.deltas _ _ (rw c.in-Ok.is at c.take_all.ensures.answer) c.in_ok-deltas.ensures.deltas

pub returns-in-Ok-clause-table : goal.returns-in-Ok-clause-table
returns-in-Ok-clause-table g c =
    leaves (table_of c.args.table.now) (number_of c.args.stripe.key) c.in_ok-deltas.deltas _ _ c.take_all.ensures.memory.room c.take_all.ensures.entries c.in_ok-deltas.ensures.deltas

pub returns-in-Err-clause-answer : goal.returns-in-Err-clause-answer
returns-in-Err-clause-answer g c =
    takes_none (table_of c.args.table.now) (number_of c.args.stripe.key) c.in_ok-deltas.deltas _ _ (rw c.in-Err.is at c.take_all.ensures.answer) c.in_ok-deltas.ensures.deltas

pub returns-in-Err-clause-table : goal.returns-in-Err-clause-table
returns-in-Err-clause-table g c =
    leaves (table_of c.args.table.now) (number_of c.args.stripe.key) c.in_ok-deltas.deltas _ _ c.take_all.ensures.memory.room c.take_all.ensures.entries c.in_ok-deltas.ensures.deltas
