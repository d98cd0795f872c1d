-- Runs of bytes, and numbers in them, low byte first.
use Rattle.std.specs.Prelude.{ℕ, ◌+◌, ◌*◌, ◌/◌, ◌%◌, Bool, List, [], ◌∷◌, take, drop, nat_eq, slice_index}
use Rattle.std.specs.List.{list_all}

abbrev pub zeros : List ℕ → Bool
zeros bytes = list_all (λ b. nat_eq b 0) bytes

abbrev pub le2 : ℕ → List ℕ
le2 x = x % 256 ∷ x / 256 % 256 ∷ []

abbrev pub le4 : ℕ → List ℕ
le4 x = x % 256 ∷ x / 256 % 256 ∷ x / 65536 % 256 ∷ x / 16777216 % 256 ∷ []

-- the number of two, or of four, bytes from place p on
abbrev pub word2 : List ℕ → ℕ → ℕ
word2 bs p = slice_index bs p + slice_index bs (p + 1) * 256

abbrev pub word4 : List ℕ → ℕ → ℕ
word4 bs p = slice_index bs p + slice_index bs (p + 1) * 256 + slice_index bs (p + 2) * 65536 + slice_index bs (p + 3) * 16777216

-- so many bytes from a place on
abbrev pub part : ℕ → ℕ → List ℕ → List ℕ
part from size bs = take size (drop from bs)
