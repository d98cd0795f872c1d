use Rattle.std.proofs.Common.{◌≡◌, ◌-◌}
use Rattle.std.specs.List.{range_with_len, flat_map}
use Rattle.workshop.specs.declared.tyre.TyreId.{TyreId}
use Rattle.workshop.specs.Readings.{noted_for}
use Rattle.row_packing.specs.Readings.{newest_of}
use Rattle.row_packing.proofs.Notes.{entry}
use Rattle.row_packing.proofs.note.note_fragment.Given as goal

-- what was noted, with the readings of the slots that are left, is what there will be
abbrev pub invariant-loop-slot : goal.invariant-loop-slot
invariant-loop-slot l =
    (q : TyreId)
    → newest_of (noted_for l.newest q) (flat_map (entry l.fragment l.filled-items) (range_with_len l.slot (3 - l.slot))) q
    ≡ newest_of (noted_for l.initial.newest q) (flat_map (entry l.fragment l.filled-items) (range_with_len 0 3)) q
