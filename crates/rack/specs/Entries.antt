-- Blocks by number, and the entries of the manager's table.
use Rattle.std.specs.Prelude.{ℕ, ◌+◌, ◌*◌}
use Rattle.geometry.specs.Keys.{number_of}
use Rattle.fragment.specs.declared.delta.Kind.{Kind}
use Rattle.fragment.specs.declared.pair.Pair.{Pair}
use Rattle.fragment.specs.Slots.{Filled}
use Rattle.rack.specs.declared.entry.Entry as code

-- a block's number: by file, then by its number in the file
abbrev pub block_number : ℕ → ℕ → ℕ
block_number file block = file * 65536 + block

abbrev pub block_in : Filled → ℕ
block_in x = block_number x.delta.file x.delta.block

-- for one block, the sealed slot that holds it: the key of its stripe, the index of its data fragment, its number in that
pub record Entry : Type 0 where
  pub block : ℕ
  pub kind : Kind
  pub pair : Pair
  pub key : ℕ
  pub index : ℕ
  pub slot : ℕ

abbrev pub entry_block : Entry → ℕ
entry_block e = e.block

-- what an entry of the code means
abbrev pub entry_of : code.Entry → Entry
entry_of e =
    record {
      block = block_number e.file e.block;
      kind = e.kind;
      pair = e.pair;
      key = number_of e.place.key;
      index = e.place.index;
      slot = e.place.slot;
    }
