-- The fields of a reading, and what is wrong with a line, in words.
use Rattle.std.specs.Prelude.{ℕ, List, ◌++◌, codes}
use Rattle.workshop.specs.declared.wrong.Field.{Field}
use Rattle.workshop.specs.declared.wrong.Field.TheVariants.{Truck, Tyre, Kpa}
use Rattle.workshop.specs.declared.wrong.Wrong.{Wrong}
use Rattle.workshop.specs.declared.wrong.Wrong.TheVariants.{Missing, NotANumber, TooLarge, Trailing}

abbrev pub name : Field → List ℕ
name Truck = codes "truck"
name Tyre = codes "tyre"
name Kpa = codes "kpa"

-- what stands before the field's number
abbrev pub label : Field → List ℕ
label Truck = codes "truck="
label Tyre = codes " tyre="
label Kpa = codes " kpa="

-- where in the line the field stands
abbrev pub place : Field → List ℕ
place Truck = codes "at the start"
place Tyre = codes "after the truck"
place Kpa = codes "after the tyre"

abbrev pub message : Wrong → List ℕ
message (Missing field) = codes "expected '" ++ (label field ++ (codes "' " ++ place field))
message (NotANumber field) = name field ++ codes ": no decimal number, or a leading zero"
message (TooLarge field) = name field ++ codes ": the number is above 65535"
message Trailing = codes "text after the last number"
