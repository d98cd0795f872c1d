-- Exclusive or of fragments, byte by byte, and what it recovers.
use Rattle.std.specs.Prelude.{◌≡◌, ℕ, ◌+◌, ◌<◌, List, [], ◌∷◌, ◌++◌, length, take, drop, replicate, bit_xor, slice_index_or}
use Rattle.std.specs.Simd.Lanes.{zip2}
use Rattle.std.specs.List.{AllByRecursion}
use Rattle.geometry.specs.Sizes.{fragment_length}

abbrev pub xored : List ℕ → List ℕ → List ℕ
xored = zip2 bit_xor

-- a fragment of zeros
abbrev pub nought : List ℕ
nought = replicate fragment_length 0

-- the exclusive or of all of them: the parity, where they are a stripe's data fragments
abbrev pub xor_all : List (List ℕ) → List ℕ
xor_all [] = nought
xor_all (f ∷ fs) = xored f (xor_all fs)

abbrev pub Long : List ℕ → Type 0
Long f = length f ≡ fragment_length

-- a parity and the fragments that it is the parity of leave nothing
abbrev pub ParityCancels : Type 0
ParityCancels = (ds : List (List ℕ)) → AllByRecursion Long ds → xor_all (xor_all ds ∷ ds) ≡ nought

-- of fragments that leave nothing, each is the exclusive or of the others
abbrev pub OneFromTheOthers : Type 0
OneFromTheOthers =
    (whole : List (List ℕ)) (s : ℕ)
    → AllByRecursion Long whole
    → xor_all whole ≡ nought
    → s < length whole
    → xor_all (take s whole ++ drop (s + 1) whole) ≡ slice_index_or whole s []
