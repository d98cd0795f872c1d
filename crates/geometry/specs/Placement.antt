-- Placement of a stripe on a row of n servers: the parity first, the data fragments on the servers after it, going round.
use Rattle.std.specs.Prelude.{◌≡◌, ℕ, zero, suc, ◌+◌, ◌-◌, ◌%◌, ◌<◌, ◌≤◌, if◌then◌else◌, Some, None, Option, nat_lt}
use Rattle.geometry.specs.declared.part.Part.{Part}
use Rattle.geometry.specs.declared.part.Part.TheVariants.{Parity, Data}
use Rattle.geometry.specs.Keys.{client_of, stripe_of}

abbrev pub parity_server : ℕ → ℕ → ℕ
parity_server n k = (client_of k + stripe_of k) % n

abbrev pub data_server : ℕ → ℕ → ℕ → ℕ
data_server n k i = (client_of k + stripe_of k + 1 + i) % n

abbrev pub server_of : ℕ → ℕ → Part → ℕ
server_of n k Parity = parity_server n k
server_of n k (Data i) = data_server n k i

-- the parts of a stripe: the parity and data fragments 0 to n − 2
abbrev pub IsPart : ℕ → Part → Type 0
IsPart n Parity = Unit {0}
IsPart n (Data i) = i + 1 < n

-- how many servers after the parity's, going round
abbrev pub steps_on : ℕ → ℕ → ℕ → ℕ
steps_on n k s = (s + n - parity_server n k) % n

abbrev pub part_at : ℕ → Part
part_at zero = Parity
part_at (suc i) = Data i

abbrev pub part_on : ℕ → ℕ → ℕ → Option Part
part_on n k s = if nat_lt s n then Some (part_at (steps_on n k s)) else None

-- what it is that p alone of the stripe's parts lies on server s
pub record Lies (n k s : ℕ) (p : Part) : Type 0 where
  pub part : IsPart n p
  pub here : server_of n k p ≡ s
  pub alone : (q : Part) → IsPart n q → server_of n k q ≡ s → q ≡ p

-- for every row, key and server of the row, exactly one part of the stripe lies there
abbrev pub OnePartOnEachServer : Type 0
OnePartOnEachServer =
    (n k s : ℕ) → 3 ≤ n → n ≤ 8 → s < n → (p : Part) × (part_on n k s ≡ Some p) × Lies n k s p
