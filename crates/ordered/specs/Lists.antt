-- What a list over lent memory holds.
use Rattle.std.specs.Prelude.{◌≡◌, ℕ, List, length, take}
use Rattle.ordered.specs.declared.lent.LentList.{LentList}

-- the elements, in their order
abbrev pub list_items : {X : Type 0} → LentList X → List X
list_items l = take l.len l.slots.now

-- how many there is memory for
abbrev pub list_room : {X : Type 0} → LentList X → ℕ
list_room l = length l.slots.now

-- what a call leaves: the lender's memory, with as many places
pub record SameMemory {X : Type 0} (old new : LentList X) : Type 0 where
  pub room : list_room new ≡ list_room old
  pub same : new.slots.ghost_name ≡ old.slots.ghost_name
