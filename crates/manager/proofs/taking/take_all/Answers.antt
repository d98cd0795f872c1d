use Rattle.std.proofs.Common.{◌+◌, None, drop, get_or, refl, ◌∙◌, arith, rules}
use Rattle.std.proofs.lemmas.Bool.Decides.{nat_tests}
use Rattle.geometry.specs.Keys.{number_of}
use Rattle.ordered.specs.Tables.{items}
use Rattle.manager.specs.Tables.{entries_in}
use Rattle.manager.specs.Taking.{slot_with, blocks_in}
use Rattle.manager.proofs.Entries.{rises_entries, few_entries}
use Rattle.manager.proofs.Counting.{counted, first_left, one_at_most, taken_on, not_taken_on, count_on}
use Rattle.manager.proofs.taking.take_all.Goals as goal

pub loop-slot-init : goal.loop-slot-init
loop-slot-init c =
    let t = c.args.table.now in
    let all = counted (entries_in t) (blocks_in c.args.deltas.now) in
    let few = few_entries t.list.len t.list.slots.now in
    (refl, omega arith, grind (arith, nat_tests), omega arith, search rules)

pub take_slot-passed_over-requires : goal.take_slot-passed_over-requires
take_slot-passed_over-requires c =
    let t = c.loop-slot.table in
    let j = c.loop-slot.slot in
    let ds = c.args.deltas.now in
    let first = first_left ds j (omega arith) in
    let count = count_on (number_of c.args.key) j (entries_in t) _ (drop j ds) (drop (j + 1) ds) (get_or ds j None) first refl (rises_entries (items t) t.rises) in
    let i = c.loop-slot.invariant.2 in
    omega arith

pub loop-slot-preserved : goal.loop-slot-preserved
loop-slot-preserved c =
    let k = number_of c.args.key in
    let t = c.loop-slot.table in
    let es = entries_in t in
    let fs = entries_in c.take_slot-passed_over.new.table in
    let j = c.loop-slot.slot in
    let ds = c.args.deltas.now in
    let first = first_left ds j (omega arith) in
    let after = c.take_slot-passed_over.ensures.entries in
    let taken = taken_on k j es fs (drop j ds) (drop (j + 1) ds) (get_or ds j None) first after in
    let passed = not_taken_on k j es fs (drop j ds) (drop (j + 1) ds) (get_or ds j None) first after in
    let count = count_on k j es fs (drop j ds) (drop (j + 1) ds) (get_or ds j None) first after (rises_entries (items t) t.rises) in
    let most = one_at_most es (slot_with (get_or ds j None)) in
    (taken ∙ c.loop-slot.invariant.0, omega arith, omega arith, omega arith, search rules)
