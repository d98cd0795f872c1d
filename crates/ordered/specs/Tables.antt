-- What an ordered table holds, and what its calls answer and leave.
use Rattle.std.specs.Prelude.{ℕ, if◌then◌else◌, List, length, Ok, Err, Result, nat_lt}
use Rattle.ordered.specs.declared.fault.MapFault.{MapFault}
use Rattle.ordered.specs.declared.fault.MapFault.TheVariants.{Held, Full, Absent}
use Rattle.ordered.specs.declared.table.OrderedTable.{OrderedTable}
use Rattle.ordered.specs.Lists.{list_items, list_room}
use Rattle.ordered.specs.Maps.{has, put}

-- the elements, in their order
abbrev pub items : {X : Type 0} {k : _} → OrderedTable X k → List X
items t = list_items t.list

-- how many there is memory for
abbrev pub room : {X : Type 0} {k : _} → OrderedTable X k → ℕ
room t = list_room t.list

module _ {X : Type 0} (n : X → ℕ) where
  -- inserting e where xs are held and there is room for so many
  abbrev pub insert_answer : List X → ℕ → X → Result (Unit {0}) MapFault
  insert_answer xs places e = if has n xs (n e) then Err Held else if nat_lt (length xs) places then Ok tt else Err Full

  abbrev pub insert_after : List X → ℕ → X → List X
  insert_after xs places e = if has n xs (n e) then xs else if nat_lt (length xs) places then put n xs e else xs

  abbrev pub replace_after : List X → X → List X
  replace_after xs e = if has n xs (n e) then put n xs e else xs

  -- replacing or removing what has the number k
  abbrev pub held_answer : List X → ℕ → Result (Unit {0}) MapFault
  held_answer xs k = if has n xs k then Ok tt else Err Absent
