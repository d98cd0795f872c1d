-- Numbers in bytes, there and back.
use Rattle.std.proofs.Common.{◌≡◌, ℕ, ◌+◌, ◌*◌, ◌/◌, ◌%◌, ◌^◌, ◌<◌, List, [], ◌∷◌, length, get_or, arith}
use native.Mathlib.Nat.{div-div-eq-div-mul, mod-add-div}
use Rattle.std.proofs.ByRecursion.{All-get_or}
use Rattle.std.specs.List.{AllByRecursion}
use Rattle.geometry.specs.Bytes.{le2, le4, word2, word4}

pub word2_le2 : (x : ℕ) → x < 2 ^ 16 → word2 (le2 x) 0 ≡ x
word2_le2 x h = omega arith

pub word4_le4 : (x : ℕ) → x < 2 ^ 32 → word4 (le4 x) 0 ≡ x
word4_le4 x h =
    let two = mod-add-div (x / 256) 256 in
    let three = mod-add-div (x / 65536) 256 in
    let top : x / 16777216 % 256 ≡ x / 16777216 = omega arith in
    omega (arith, div-div-eq-div-mul x 256 256, div-div-eq-div-mul x 65536 256)

-- the lowest byte of a number, with y above it
low : (b q y : ℕ) → b < 256 → q ≡ b + y * 256 → b ≡ q % 256
low b q y h e = omega arith

-- the bytes of a word are those of its number
module _ (bs : List ℕ) (bytes : AllByRecursion (λ b. b < 256) bs) where
  byte : (p : ℕ) → p < length bs → get_or bs p 0 < 256
  byte p h = All-get_or (λ b. b < 256) bs p 0 h bytes

  pub le2_word2 : (p : ℕ) → p + 1 < length bs → get_or bs p 0 ∷ get_or bs (p + 1) 0 ∷ [] ≡ le2 (word2 bs p)
  le2_word2 p h =
      let a = byte p (omega arith) in
      let b = byte (p + 1) h in
      λ t. low (get_or bs p 0) (word2 bs p) (get_or bs (p + 1) 0) a (omega arith) t ∷ low (get_or bs (p + 1) 0) (word2 bs p / 256) 0 b (omega arith) t ∷ []

  pub le4_word4 : (p : ℕ) → p + 3 < length bs → get_or bs p 0 ∷ get_or bs (p + 1) 0 ∷ get_or bs (p + 2) 0 ∷ get_or bs (p + 3) 0 ∷ [] ≡ le4 (word4 bs p)
  le4_word4 p h =
      let a = byte p (omega arith) in
      let b = byte (p + 1) (omega arith) in
      let c = byte (p + 2) (omega arith) in
      let d = byte (p + 3) h in
      λ t.
      low (get_or bs p 0) (word4 bs p) (get_or bs (p + 1) 0 + get_or bs (p + 2) 0 * 256 + get_or bs (p + 3) 0 * 65536) a (omega arith) t
      ∷ low (get_or bs (p + 1) 0) (word4 bs p / 256) (get_or bs (p + 2) 0 + get_or bs (p + 3) 0 * 256) b (omega arith) t
      ∷ low (get_or bs (p + 2) 0) (word4 bs p / 65536) (get_or bs (p + 3) 0) c (omega arith) t
      ∷ low (get_or bs (p + 3) 0) (word4 bs p / 16777216) 0 d (omega arith) t
      ∷ []
