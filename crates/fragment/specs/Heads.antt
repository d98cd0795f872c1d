-- The head of a data fragment, 32 bytes.
use Rattle.std.specs.Prelude.{ℕ, ◌+◌, Bool, if◌then◌else◌, ◌&&◌, List, ◌∷◌, ◌++◌, drop, replicate, Some, None, Ok, Err, Option, Result, ◌==◌, nat_lt, slice_index}
use Rattle.geometry.specs.Keys.{client_of, stripe_of}
use Rattle.fragment.specs.declared.cause.Cause.{Cause}
use Rattle.fragment.specs.declared.cause.Cause.TheVariants.{BadLayout, BadRow, BadHead}
use Rattle.fragment.specs.declared.layout.Layout.{Layout}
use Rattle.fragment.specs.declared.layout.Layout.TheVariants.{One, Two}
use Rattle.geometry.specs.Bytes.{le4, word4, zeros}

-- the head of data fragment i of key k on a row of n, as it is written: in layout 2
abbrev pub head_bytes : ℕ → ℕ → ℕ → List ℕ
head_bytes n k i = 2 ∷ n ∷ client_of k ∷ i ∷ le4 (stripe_of k) ++ replicate 24 0

abbrev pub layout_in : ℕ → Option Layout
layout_in b = if b == 1 then Some One else if b == 2 then Some Two else None

-- the bytes after the first four: the stripe number, then zeros
abbrev pub names_stripe : ℕ → List ℕ → Bool
names_stripe k rest = word4 rest 0 == stripe_of k && zeros (drop 4 rest)

-- a head with this client, this index and these bytes after them is that of data fragment i of key k; a row of n has
-- the indexes 0 to n − 2
abbrev pub head_fits : ℕ → ℕ → ℕ → ℕ → ℕ → List ℕ → Bool
head_fits n k i client at rest = client == client_of k && at == i && nat_lt (i + 1) n && names_stripe k rest

abbrev pub head_of : ℕ → ℕ → ℕ → List ℕ → Option Layout → Result Layout Cause
head_of n k i head None = Err BadLayout
head_of n k i head (Some l) =
    if slice_index head 1 == n then
    (if head_fits n k i (slice_index head 2) (slice_index head 3) (drop 4 head) then Ok l else Err BadHead)
    else Err BadRow

abbrev pub read_head : ℕ → ℕ → ℕ → List ℕ → Result Layout Cause
read_head n k i head = head_of n k i head (layout_in (slice_index head 0))
