use Rattle.fragment.proofs.Laws.{only_the_slot}
use Rattle.fragment.proofs.codec.fill_slot.Goals as goal

pub returns-then-slot-ge-SLOTS_IN_FRAGMENT-clause-only_the_slot : goal.returns-then-slot-ge-SLOTS_IN_FRAGMENT-clause-only_the_slot
returns-then-slot-ge-SLOTS_IN_FRAGMENT-clause-only_the_slot c = only_the_slot

pub returns-clause-only_the_slot : goal.returns-clause-only_the_slot
returns-clause-only_the_slot c = only_the_slot
