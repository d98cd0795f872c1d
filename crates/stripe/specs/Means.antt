-- What the stripes of the code mean.
use Rattle.std.specs.Prelude.{ℕ, List, [], ◌∷◌, slice_index_or}
use Rattle.geometry.specs.Keys.{number_of}
use Rattle.geometry.specs.Placement.{steps_on}
use Rattle.fragment.specs.Slots.{Filled}
use Rattle.stripe.specs.declared.buffer.StripeBuffer.{StripeBuffer}
use Rattle.stripe.specs.declared.image.StripeImage.{StripeImage}
use Rattle.stripe.specs.Buffers.{slots_from}

-- the filled slots of a stripe being filled, in order
abbrev pub slots_in : StripeBuffer → List Filled
slots_in b = slots_from b.slots.fragments b.filled

-- what a finished stripe has for server s: its pieces go round from the parity's server
abbrev pub image_on : StripeImage → ℕ → List ℕ
image_on image s =
    slice_index_or (image.parity ∷ image.data) (steps_on image.stripe.row.servers (number_of image.stripe.key) s) []
