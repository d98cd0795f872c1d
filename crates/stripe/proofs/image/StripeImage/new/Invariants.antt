use Rattle.std.proofs.Common.{◌≡◌, ℕ, ◌+◌, ◌<◌, [], length, get_or}
use Rattle.geometry.specs.Keys.{number_of}
use Rattle.stripe.specs.Contents.{data_bytes}
use Rattle.stripe.specs.Means.{slots_in}
use Rattle.stripe.proofs.image.StripeImage.new.Given as goal

-- the row's data fragments so far
abbrev pub invariant-loop-index : goal.invariant-loop-index
invariant-loop-index l =
    (length l.fragment-items ≡ 7)
    × ((i : ℕ) → i < l.index → i + 1 < l.stripe.row.servers → get_or l.fragment-items i [] ≡ data_bytes l.stripe.row.servers (number_of l.stripe.key) (slots_in l.buffer) i)
