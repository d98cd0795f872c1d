use Rattle.std.proofs.Common.{subst, sym, ◌∙◌, rules}
use Rattle.std.specs.Result.{IsOk}
use Rattle.geometry.specs.Keys.{number_of}
use Rattle.ordered.specs.Tables.{room}
use Rattle.manager.specs.Tables.{entries_in}
use Rattle.manager.specs.Taking.{with_delta}
use Rattle.manager.proofs.Counting.{has_room}
use Rattle.manager.proofs.taking.take_slot.Goals as goal

pub unwrap-requires : goal.unwrap-requires
unwrap-requires c =
    let t = c.args.table.now in
    let fits = rw c.in-Some.is at c.requires in
    let answer = has_room (room t) (number_of c.args.key) c.args.slot (entries_in t) (with_delta c.in-Some.delta) fits in
    subst IsOk (sym (c.take.ensures.answer ∙ answer)) (search rules)
