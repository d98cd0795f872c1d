-- Keys as numbers: a key's number is client × 2^32 + stripe, so that keys are ordered by client, then by stripe.
use Rattle.std.specs.Prelude.{ℕ, ◌+◌, ◌*◌, ◌/◌, ◌%◌, ◌^◌, Bool, ◌&&◌, Some, None, Option, nat_lt}
use Rattle.geometry.specs.declared.key.Key.{Key}

abbrev pub stripes : ℕ
stripes = 2 ^ 32

abbrev pub key_number : ℕ → ℕ → ℕ
key_number client stripe = client * stripes + stripe

abbrev pub client_of : ℕ → ℕ
client_of k = k / stripes

abbrev pub stripe_of : ℕ → ℕ
stripe_of k = k % stripes

-- clients are 0 to 7
abbrev pub is_key : ℕ → ℕ → Bool
is_key client stripe = nat_lt client 8 && nat_lt stripe stripes

abbrev pub number_of : Key → ℕ
number_of key = key_number key.client key.stripe

abbrev pub number_in : Option Key → Option ℕ
number_in (Some key) = Some (number_of key)
number_in None = None
