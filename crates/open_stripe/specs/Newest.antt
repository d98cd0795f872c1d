-- The newest of the slots of a block.
use Rattle.std.specs.Prelude.{ℕ, if◌then◌else◌, List, filter, fold, Some, None, Option, nat_eq, nat_lt}
use Rattle.fragment.specs.Slots.{Filled}
use Rattle.rack.specs.Entries.{block_in}
use Rattle.rack.specs.Reading.{newer_slot}
use Rattle.open_stripe.specs.declared.newest.OpenSlot.{OpenSlot}

abbrev pub newest_in : ℕ → List Filled → Option Filled
newest_in b xs = fold newer_slot None (filter (λ x. nat_eq (block_in x) b) xs)

-- of two, the second if its version is higher
abbrev pub newest_of_two : Option Filled → Option Filled → Option Filled
newest_of_two a None = a
newest_of_two a (Some x) = newer_slot a x

-- the same for slots as code has them
abbrev pub newer_of : Option OpenSlot → OpenSlot → OpenSlot
newer_of None s = s
newer_of (Some r) s = if nat_lt r.delta.version s.delta.version then s else r
