use Rattle.std.proofs.Common.{◌∙◌}
use Rattle.geometry.specs.Keys.{number_of}
use Rattle.row_packing.proofs.Counts.{left_none}
use Rattle.row_packing.proofs.Notes.{entry, notes_more, fragment_entries}
use Rattle.row_packing.proofs.note.note_fragment.Goals as goal

pub loop-slot-preserved : goal.loop-slot-preserved
loop-slot-preserved c =
    let l = c.loop-slot in
    λ q. notes_more (entry c.args.fragment.now c.in_ok-slots.slots) l.slot 3 l.newest c.note_slot.new.newest c.loop-slot-test.true c.in_ok-note_slot.ensures q ∙ l.invariant q

pub returns : goal.returns
returns c =
    let name = c.args.name in
    let bs = c.args.fragment.now in
    let l = c.loop-slot in
    let all = fragment_entries bs c.in_ok-slots.slots name.stripe.row.servers (number_of name.stripe.key) name.index c.in_ok-slots.ensures.answer in
    let last = left_none l.slot 3 c.loop-slot-test.false in
    λ q. rw all (rw last at (l.invariant q))
