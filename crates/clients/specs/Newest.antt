-- The newest open slot of a block, as code finds it.
use Rattle.std.specs.Prelude.{◌≡◌, ℕ, List, if◌then◌else◌, Some, None, Option, IfSome, nat_lt}
use Rattle.std.specs.List.{flat_map}
use Rattle.std.specs.Option.{option_map}
use Rattle.fragment.specs.Slots.{Filled}
use Rattle.stripe.specs.Contents.{slot_at}
use Rattle.rack.specs.Worlds.{Client, filled_of}
use Rattle.open_stripe.specs.Means.{open_of}
use Rattle.open_stripe.specs.Newest.{newest_in}
use Rattle.clients.specs.declared.newest.NewestSlot.{NewestSlot}

-- the newest of the slots of block b that these clients have
abbrev pub newest_of : ℕ → List Client → Option Filled
newest_of b cs = newest_in b (flat_map filled_of cs)

-- of two, the second if its version is higher
abbrev pub newer_of_two : Option NewestSlot → Option NewestSlot → Option NewestSlot
newer_of_two a None = a
newer_of_two None (Some s) = Some s
newer_of_two (Some r) (Some s) = if nat_lt r.slot.delta.version s.slot.delta.version then Some s else Some r

-- code has found this slot: it is in the stripe that is named, under its number there
pub record Finds (newest : Option Filled) (found : Option NewestSlot) : Type 0 where
  pub delta : option_map (λ s. s.slot.delta) found ≡ option_map (λ x. x.delta) newest
  pub place : IfSome found (λ s. slot_at (open_of s.stripe.now).filled s.slot.slot ≡ newest)
