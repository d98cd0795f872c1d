-- Filling a slot of a held stripe, and noting a source.
use Rattle.std.specs.Prelude.{ℕ, Bool, List, [], ◌∷◌, ◌||◌, length, Option, nat_eq, nat_le, slice_set}
use Rattle.geometry.specs.Sizes.{slot_count}
use Rattle.fragment.specs.declared.delta.Delta.{Delta}
use Rattle.fragment.specs.Slots.{filled_with}
use Rattle.rack.specs.declared.fault.FaultCause.{FaultCause}
use Rattle.rack.specs.declared.fault.FaultCause.TheVariants.{StripeFull}
use Rattle.rack.specs.Lists.{first_of, when}
use Rattle.rack.specs.Worlds.{Open, Client, Held}
use Rattle.rack.specs.Opening.{with_slots}
use Rattle.rack.specs.Gathering.{most_sources}
use Rattle.open_stripe.specs.Means.{with_source}
use Rattle.clients.specs.Turns.{client_in, stripe_held, if_not_idle, if_not_held, unless_refused}

-- a delta with no version has no room either
abbrev pub has_no_room : ℕ → Delta → Open → Bool
has_no_room n delta o = nat_eq delta.version 0 || nat_le (slot_count n) (length o.filled)

-- the stripe held under this begin number takes one slot more, on a row of n
abbrev pub fill_refusal : ℕ → Delta → ℕ → Client → Option FaultCause
fill_refusal n delta begun client =
    first_of (if_not_held begun client ∷ when (has_no_room n delta (stripe_held begun client)) StripeFull ∷ [])

abbrev pub with_fill : List Client → ℕ → ℕ → ℕ → Delta → List ℕ → List Client
with_fill cs c begun n delta bytes =
    let client = client_in cs c in
    let held = Held (with_slots (stripe_held begun client) (filled_with delta bytes ∷ [])) in
    unless_refused (fill_refusal n delta begun client) cs (slice_set cs c held)

-- it notes one source more
abbrev pub note_refusal : ℕ → Client → Option FaultCause
note_refusal begun client =
    let full = nat_le most_sources (length (stripe_held begun client).sources) in
    first_of (if_not_held begun client ∷ when full StripeFull ∷ [])

abbrev pub with_note : List Client → ℕ → ℕ → ℕ → List Client
with_note cs c begun k =
    let client = client_in cs c in
    unless_refused (note_refusal begun client) cs (slice_set cs c (Held (with_source (stripe_held begun client) k)))

-- a stripe that was just begun has room for one slot on every row
abbrev pub visit_refusal : Delta → Client → Option FaultCause
visit_refusal delta client = first_of (if_not_idle client ∷ when (nat_eq delta.version 0) StripeFull ∷ [])
