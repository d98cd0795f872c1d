use Rattle.std.proofs.Common.{ℕ, true, false, List, Some, ap, ◌∙◌, sym, arith}
use Rattle.std.proofs.lemmas.List.{take_all}
use Rattle.fragment.specs.Slots.{Filled}
use Rattle.rack.specs.Entries.{block_number}
use Rattle.stripe.specs.Means.{slots_in}
use Rattle.stripe.proofs.Filling.{length_slots}
use Rattle.open_stripe.proofs.Newer.{found_filled, found_empty}
use Rattle.open_stripe.proofs.open.OpenStripe.newest.Goals as goal
use Rattle.open_stripe.proofs.open.OpenStripe.newest.Goals.{in-Some+then-is_of, in-Some+else-is_of, in_default}

pub loop-slot-preserved : goal.loop-slot-preserved
loop-slot-preserved c =
    let xs : List Filled = slots_in c.args.self.now.buffer in
    let b : ℕ = block_number c.args.file c.args.block in
    let i = c.loop-slot.slot in
    let items = c.loop-slot.invariant.0 in
    let so_far = c.loop-slot.invariant.1 in (
      items,
      elim c.match-delta.branch [
        | in-Some+then-is_of w ↦ found_filled b i xs c.loop-slot.newest c.match-delta.newest so_far w.in-Some.delta true (rw items at w.in-Some.is) (sym w.is_of.ensures ∙ w.if-is_of.true) (w.newest-is ∙ ap Some w.newer.ensures)
        | in-Some+else-is_of w ↦ found_filled b i xs c.loop-slot.newest c.match-delta.newest so_far w.in-Some.delta false (rw items at w.in-Some.is) (sym w.is_of.ensures ∙ w.if-is_of.false) w.newest-is
        | in_default w ↦ found_empty b i xs c.loop-slot.newest c.match-delta.newest so_far (rw items at w.in_default.is) w.newest-is
      ],
    )

pub returns-clause-delta : goal.returns-clause-delta
returns-clause-delta c =
    let l = length_slots c.args.self.now.buffer in
    let whole = take_all c.loop-slot.slot (slots_in c.args.self.now.buffer) (omega arith) in
    rw whole at c.loop-slot.invariant.1.0

pub returns-clause-place : goal.returns-clause-place
returns-clause-place c =
    let l = length_slots c.args.self.now.buffer in
    let whole = take_all c.loop-slot.slot (slots_in c.args.self.now.buffer) (omega arith) in
    rw whole at c.loop-slot.invariant.1.1
