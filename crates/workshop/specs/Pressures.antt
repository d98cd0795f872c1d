-- Pressures in kPa.
use Rattle.std.specs.Prelude.{◌≡◌, ℕ, ◌+◌, ◌*◌, ◌/◌, ◌%◌, ◌<◌, Bool, List, ◌∷◌, replicate, nat_lt, slice_index}

-- a tyre is sound from 600 kPa on
abbrev pub is_low : ℕ → Bool
is_low kpa = nat_lt kpa 600

-- the block of a pressure: two bytes, low first, then 126 zeros
abbrev pub block_of : ℕ → List ℕ
block_of kpa = (kpa % 256) ∷ (kpa / 256 % 256) ∷ replicate 126 0

-- the pressure that a block's first two bytes say
abbrev pub kpa_in : List ℕ → ℕ
kpa_in block = slice_index block 0 + slice_index block 1 * 256

-- every pressure comes back from its block
abbrev pub ComesBack : Type 0
ComesBack = (kpa : ℕ) → kpa < 65536 → kpa_in (block_of kpa) ≡ kpa
