-- A packer's stripe, stored or not.
use Rattle.std.proofs.Common.{◌≡◌, ℕ, ◌+◌, ◌<◌, Bool, true, false, List, [], ◌∷◌, length, Ok, Err, Result, MatchResult, is_ok, if◌then◌else◌, refl, ap, ◌∙◌}
use Rattle.geometry.specs.declared.placement.PlacedStripe.{PlacedStripe}
use Rattle.geometry.specs.declared.row.RowLength.{RowLength}
use Rattle.geometry.specs.Keys.{number_of}
use Rattle.fragment.specs.Slots.{Filled}
use Rattle.stripe.specs.declared.image.StripeImage.{StripeImage}
use Rattle.stripe.specs.Contents.{data_fragments}
use Rattle.stripe.specs.Means.{image_on}
use Rattle.stripe.specs.Rows.{fragment_on}
use Rattle.server.specs.Meaning.{Meaning}
use Rattle.rack.specs.Opening.{with_slots}
use Rattle.open_stripe.specs.Means.{open_of}
use Rattle.row_packing.specs.declared.pack.Packer.{Packer}
use Rattle.row_packing.specs.Packers.{ImageOf, Sealed, AfterSeal, is_full, MadeRoom, Added}

pub image_of : (row : RowLength) (xs : List Filled) (k : ℕ) (image : StripeImage) (stripe : PlacedStripe) → stripe.row ≡ row → number_of stripe.key ≡ k → image.stripe.row ≡ stripe.row → image.stripe.key ≡ stripe.key → ((s : ℕ) → s < stripe.row.servers → image_on image s ≡ fragment_on stripe.row.servers (number_of stripe.key) (data_fragments stripe.row.servers (number_of stripe.key) xs) s) → ImageOf row xs k image
image_of row xs k image stripe r n ir ik each = record { row = ir ∙ r; key = ap number_of ik ∙ n; each = λ s h. rw (← r, ← n) (each s (rw r h)) }

pub sealed_some : (xs : List Filled) (p q : Packer) (was after : List Meaning) → (length xs ≡ 0 → ⊥) → Sealed p q was after → AfterSeal xs p q was after
sealed_some [] p q was after h s = absurd (h refl)
sealed_some (x ∷ xs) p q was after h s = s

version_stays : (xs : List Filled) (p q : Packer) (was after : List Meaning) → AfterSeal xs p q was after → q.version ≡ p.version
version_stays [] p q was after s = ap (λ t. t.version) s.0
version_stays (x ∷ xs) p q was after s = s.version

pub room_version : (b : Bool) (p q : Packer) (was after : List Meaning) → MadeRoom b p q was after → q.version ≡ p.version
room_version true p q was after s = version_stays (open_of p.current).filled p q was after s
room_version false p q was after s = ap (λ t. t.version) s.0

-- a reading put into the stripe once there is room, or refused there
pub added : {E : Type 0} (r : Result (Unit {0}) E) (p s q : Packer) (was after : List Meaning) (x : Filled) → MadeRoom (is_full p) p s was after → open_of q.current ≡ (if is_ok r then with_slots (open_of s.current) (x ∷ []) else open_of s.current) → q.version ≡ (if is_ok r then p.version + 1 else s.version) → q.stripes ≡ s.stripes → q.row ≡ s.row → MatchResult r (λ _. Added p q was after x) (λ _. q.version ≡ p.version)
added (Ok u) p s q was after x room current version stripes row = record { between = s; room = room; current = current; stripes = stripes; row = row; version = version }
added (Err f) p s q was after x room current version stripes row = version ∙ room_version (is_full p) p s was after room
