-- Worked examples of the formats.
use Rattle.std.specs.Prelude.{◌≡◌, true, [], ◌∷◌, replicate}
use Rattle.geometry.specs.Keys.{key_number}
use Rattle.geometry.specs.Placement.{parity_server, data_server}
use Rattle.geometry.specs.Sizes.{fragment_length}
use Rattle.parity.specs.Xor.{xor_all}
use Rattle.fragment.specs.Pairs.{beats}

-- three servers, client 1, stripe 0
abbrev pub ShortRow : Type 0
ShortRow =
    (parity_server 3 (key_number 1 0) ≡ 1) × (data_server 3 (key_number 1 0) 0 ≡ 2) × (data_server 3 (key_number 1 0) 1 ≡ 0)

-- eight servers, the last key
abbrev pub LongRow : Type 0
LongRow = (parity_server 8 (key_number 7 4294967295) ≡ 6) × (data_server 8 (key_number 7 4294967295) 6 ≡ 5)

abbrev pub ParityBytes : Type 0
ParityBytes =
    xor_all (replicate fragment_length 0x3c ∷ replicate fragment_length 0xa5 ∷ replicate fragment_length 0x0f ∷ [])
    ≡ replicate fragment_length 0x96

-- a newer write beats an older one, however often that was moved
abbrev pub NewerPair : Type 0
NewerPair = beats (record { version = 6; moves = 0 }) (record { version = 5; moves = 9 }) ≡ true

abbrev pub Examples : Type 0
Examples = ShortRow × LongRow × ParityBytes × NewerPair
