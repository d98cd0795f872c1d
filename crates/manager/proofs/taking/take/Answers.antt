use Rattle.std.proofs.Common.{rules}
use Rattle.geometry.specs.Keys.{number_of}
use Rattle.ordered.specs.Tables.{items, room}
use Rattle.manager.proofs.Entries.{new_answer, higher_answer, higher_after}
use Rattle.manager.proofs.taking.take.Goals as goal

pub returns-in-Some-2-clause-answer : goal.returns-in-Some-2-clause-answer
returns-in-Some-2-clause-answer c =
    let t = c.args.table.now in
    let a = higher_answer (room t) (number_of c.args.key) c.args.slot (items t) c.entry_for-entry.result c.args.delta.now c.entry_for-entry.ensures c.entry_of_block.result c.entry_of_block.ensures c.in-Some.held c.in-Some.is (search rules) in
    cc (a, c.and.ensures, c.replace.ensures.answer)

pub returns-in-Some-2-clause-entries : goal.returns-in-Some-2-clause-entries
returns-in-Some-2-clause-entries c =
    let t = c.args.table.now in
    let a = higher_after (room t) (number_of c.args.key) c.args.slot (items t) c.entry_for-entry.result c.args.delta.now c.entry_for-entry.ensures c.entry_of_block.result c.entry_of_block.ensures c.in-Some.held c.in-Some.is (search rules) in
    cc (a, c.replace.ensures.items)

pub returns-in-None-clause-answer : goal.returns-in-None-clause-answer
returns-in-None-clause-answer c =
    let t = c.args.table.now in
    let a = new_answer (room t) (number_of c.args.key) c.args.slot (items t) c.entry_for-entry.result c.args.delta.now c.entry_for-entry.ensures c.entry_of_block.result c.entry_of_block.ensures c.in-None.is in
    cc (a, c.and-in-None.ensures, c.insert.ensures.answer)
