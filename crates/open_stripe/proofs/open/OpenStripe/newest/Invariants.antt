use Rattle.std.proofs.Common.{◌≡◌, take}
use Rattle.stripe.specs.Contents.{deltas_of}
use Rattle.stripe.specs.Means.{slots_in}
use Rattle.rack.specs.Entries.{block_number}
use Rattle.open_stripe.specs.Newest.{newest_in}
use Rattle.open_stripe.proofs.Newer.{Found}
use Rattle.open_stripe.proofs.open.OpenStripe.newest.Given as goal

-- the newest of the slots so far
abbrev pub invariant-loop-slot : goal.invariant-loop-slot
invariant-loop-slot l =
    (l.delta-items ≡ deltas_of (slots_in l.self.buffer))
    × Found (slots_in l.self.buffer) (newest_in (block_number l.file l.block) (take l.slot (slots_in l.self.buffer))) l.newest
