-- The sizes of what is stored.
use Rattle.std.specs.Prelude.{ℕ, ◌+◌, ◌-◌, ◌*◌}

abbrev pub head_length : ℕ
head_length = 32

abbrev pub delta_length : ℕ
delta_length = 32

abbrev pub block_length : ℕ
block_length = 128

abbrev pub slot_length : ℕ
slot_length = delta_length + block_length

abbrev pub slots_in_fragment : ℕ
slots_in_fragment = 3

abbrev pub fragment_length : ℕ
fragment_length = head_length + slots_in_fragment * slot_length

-- where slot j of a fragment begins
abbrev pub slot_place : ℕ → ℕ
slot_place j = head_length + j * slot_length

-- slots in a stripe on a row of n servers
abbrev pub slot_count : ℕ → ℕ
slot_count n = slots_in_fragment * (n - 1)

-- slots in a stripe on the longest row
abbrev pub most_slots : ℕ
most_slots = slot_count 8
