-- A slot: a delta of 32 bytes, then the 128 bytes of a block.
use Rattle.std.specs.Prelude.{◌≡◌, ℕ, ◌^◌, ◌<◌, ◌≤◌, Bool, true, if◌then◌else◌, ◌&&◌, List, ◌∷◌, ◌++◌, length, drop, replicate, Some, None, Ok, Err, Option, Result, ◌==◌, nat_lt, slice_index}
use Rattle.geometry.specs.Sizes.{delta_length, block_length, slot_length}
use Rattle.fragment.specs.declared.cause.Cause.{Cause}
use Rattle.fragment.specs.declared.cause.Cause.TheVariants.{BadSlot}
use Rattle.fragment.specs.declared.layout.Layout.{Layout}
use Rattle.fragment.specs.declared.layout.Layout.TheVariants.{One, Two}
use Rattle.fragment.specs.declared.delta.Kind.{Kind}
use Rattle.fragment.specs.declared.delta.Kind.TheVariants.{Write, Trim}
use Rattle.fragment.specs.declared.delta.Delta.{Delta}
use Rattle.fragment.specs.Numbers.{kind_number}
use Rattle.geometry.specs.Bytes.{le2, le4, word2, word4, part, zeros}

-- what a filled slot holds; a slot is empty (None) or filled
pub record Filled : Type 0 where
  pub delta : Delta
  pub bytes : List ℕ

-- writing, in layout 2

abbrev pub delta_bytes : Delta → List ℕ
delta_bytes d =
    kind_number d.kind ∷ 0 ∷ le2 d.file ++ (le2 d.block ++ (le2 d.moves ++ (le4 d.version ++ replicate 20 0)))

abbrev pub slot_bytes : Option Filled → List ℕ
slot_bytes None = replicate slot_length 0
slot_bytes (Some x) = delta_bytes x.delta ++ x.bytes

-- a trim keeps no bytes
abbrev pub content_of : Kind → List ℕ → List ℕ
content_of Write bytes = bytes
content_of Trim bytes = replicate block_length 0

abbrev pub filled_with : Delta → List ℕ → Filled
filled_with d bytes = record { delta = d; bytes = content_of d.kind bytes }

-- reading, in either layout

abbrev pub kind_in : Layout → ℕ → Option Kind
kind_in One b = if b == 1 then Some Write else None
kind_in Two b = if b == 1 then Some Write else if b == 2 then Some Trim else None

-- layout 1 has a version of two bytes where layout 2 has the moves
abbrev pub delta_in : Layout → Kind → List ℕ → Delta
delta_in One k w = record { kind = k; file = word2 w 2; block = word2 w 4; version = word2 w 6; moves = 0 }
delta_in Two k w = record { kind = k; file = word2 w 2; block = word2 w 4; version = word4 w 8; moves = word2 w 6 }

-- the bytes of a delta that have no use are zero
abbrev pub rest_is_zero : Layout → List ℕ → Bool
rest_is_zero One w = slice_index w 1 == 0 && zeros (part 8 24 w)
rest_is_zero Two w = slice_index w 1 == 0 && zeros (part 12 20 w)

abbrev pub content_fits : Kind → List ℕ → Bool
content_fits Write bytes = true
content_fits Trim bytes = zeros bytes

abbrev pub is_sound : Layout → Kind → List ℕ → Bool
is_sound l k w = rest_is_zero l w && nat_lt 0 (delta_in l k w).version && content_fits k (drop delta_length w)

abbrev pub filled_in : Layout → List ℕ → Option Kind → Result (Option Filled) Cause
filled_in l w None = Err BadSlot
filled_in l w (Some k) =
    if is_sound l k w then Ok (Some (record { delta = delta_in l k w; bytes = drop delta_length w })) else Err BadSlot

-- the slot that these bytes are, or that they break a rule of the layout
abbrev pub read_slot : Layout → List ℕ → Result (Option Filled) Cause
read_slot l w = if zeros w then Ok None else filled_in l w (kind_in l (slice_index w 0))

-- what code answers for a slot: the delta alone, the block's bytes stay in the fragment
abbrev pub delta_of : Option Filled → Option Delta
delta_of None = None
delta_of (Some x) = Some x.delta

abbrev pub delta_answer : Result (Option Filled) Cause → Result (Option Delta) Cause
delta_answer (Ok s) = Ok (delta_of s)
delta_answer (Err c) = Err c

-- a filled slot that can be written: its fields fit, it has a version, a trim has no bytes
pub record Fair (x : Filled) : Type 0 where
  pub file : x.delta.file < 2 ^ 16
  pub block : x.delta.block < 2 ^ 16
  pub moves : x.delta.moves < 2 ^ 16
  pub version : x.delta.version < 2 ^ 32
  pub some : 1 ≤ x.delta.version
  pub long : length x.bytes ≡ block_length
  pub blank : content_fits x.delta.kind x.bytes ≡ true

abbrev pub FairSlot : Option Filled → Type 0
FairSlot None = Unit {0}
FairSlot (Some x) = Fair x
