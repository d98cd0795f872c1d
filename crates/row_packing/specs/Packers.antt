-- What a packer does with the stripe that it fills.
use Rattle.std.specs.Prelude.{◌≡◌, ℕ, ◌+◌, ◌<◌, Bool, true, false, List, [], ◌∷◌, length, nat_le}
use Rattle.geometry.specs.declared.row.RowLength.{RowLength}
use Rattle.geometry.specs.Sizes.{slot_count}
use Rattle.geometry.specs.Keys.{number_of, key_number}
use Rattle.fragment.specs.Slots.{Filled, filled_with}
use Rattle.stripe.specs.declared.image.StripeImage.{StripeImage}
use Rattle.stripe.specs.Contents.{data_fragments}
use Rattle.stripe.specs.Means.{image_on}
use Rattle.stripe.specs.Rows.{fragment_on}
use Rattle.server.specs.Meaning.{Meaning}
use Rattle.row.specs.Changes.{applied}
use Rattle.rack.specs.Worlds.{Open}
use Rattle.rack.specs.Opening.{with_slots}
use Rattle.open_stripe.specs.Means.{open_of}
use Rattle.workshop.specs.declared.reading.Reading.{Reading}
use Rattle.workshop.specs.Pressures.{block_of}
use Rattle.row_packing.specs.Deltas.{delta_for}
use Rattle.row_packing.specs.declared.pack.Packer.{Packer}
use Rattle.row_packing.specs.Stores.{stripe_stores}

-- an open stripe with nothing in it
abbrev pub begun_at : ℕ → Open
begun_at begun = record { begun = begun; filled = []; sources = [] }

-- the image of these slots on this row, under key k
pub record ImageOf (r : RowLength) (xs : List Filled) (k : ℕ) (image : StripeImage) : Type 0 where
  pub row : image.stripe.row ≡ r
  pub key : number_of image.stripe.key ≡ k
  pub each : (s : ℕ) → s < r.servers → image_on image s ≡ fragment_on r.servers k (data_fragments r.servers k xs) s

-- packer q is packer p once its stripe is stored on the row and another begun, under the last version
pub record Sealed (p q : Packer) (was after : List Meaning) : Type 0 where
  pub image : StripeImage
  pub made : ImageOf p.row (open_of p.current).filled (key_number 1 p.stripes) image
  pub stored : after ≡ applied (stripe_stores image) was
  pub stripes : q.stripes ≡ p.stripes + 1
  pub version : q.version ≡ p.version
  pub row : q.row ≡ p.row
  pub current : open_of q.current ≡ begun_at p.version

-- an empty stripe is not stored
abbrev pub AfterSeal : List Filled → Packer → Packer → List Meaning → List Meaning → Type 0
AfterSeal [] p q was after = (q ≡ p) × (after ≡ was)
AfterSeal (x ∷ xs) p q was after = Sealed p q was after

-- the slot of a reading
abbrev pub slot_for : Reading → ℕ → Filled
slot_for r version = filled_with (delta_for r version) (block_of r.kpa)

abbrev pub is_full : Packer → Bool
is_full p = nat_le (slot_count p.row.servers) (length (open_of p.current).filled)

-- a full stripe is stored, and another begun
abbrev pub MadeRoom : Bool → Packer → Packer → List Meaning → List Meaning → Type 0
MadeRoom true p q was after = AfterSeal (open_of p.current).filled p q was after
MadeRoom false p q was after = (q ≡ p) × (after ≡ was)

-- packer q is packer p with room made, and then one slot more
pub record Added (p q : Packer) (was after : List Meaning) (x : Filled) : Type 0 where
  pub between : Packer
  pub room : MadeRoom (is_full p) p between was after
  pub current : open_of q.current ≡ with_slots (open_of between.current) (x ∷ [])
  pub stripes : q.stripes ≡ between.stripes
  pub row : q.row ≡ between.row
  pub version : q.version ≡ p.version + 1
