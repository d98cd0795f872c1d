-- A line of input added to the readings.
use Rattle.std.specs.Prelude.{◌≡◌, ℕ, if◌then◌else◌, List, [], ◌∷◌, ◌++◌, codes, decimal, Ok, Err, Result, nat_lt}
use Rattle.workshop.specs.declared.input.InputFault.{InputFault}
use Rattle.workshop.specs.declared.input.InputFault.TheVariants.{Line, TooMany, Memory}
use Rattle.workshop.specs.declared.reading.Reading.{Reading}
use Rattle.workshop.specs.declared.wrong.Wrong.{Wrong}
use Rattle.workshop.specs.Fields.{message}
use Rattle.workshop.specs.Lines.{read_line}

-- as many readings as are kept
abbrev pub most_readings : ℕ
most_readings = 10000

-- what a line of this number, read so, adds to so many readings, or why it adds nothing
abbrev pub taken_as : ℕ → ℕ → Result Reading Wrong → Result Reading InputFault
taken_as count line (Ok reading) = if nat_lt count most_readings then Ok reading else Err (TooMany line)
taken_as count line (Err wrong) = Err (Line line wrong)

-- the same of its text
abbrev pub taken_line : ℕ → ℕ → List ℕ → Result Reading InputFault
taken_line count line text = taken_as count line (read_line text)

-- what is answered, and which readings are left: the reading is added, or nothing is, for that reason or for want of memory
abbrev pub AddedLine : ℕ → Result Reading InputFault → List Reading → List Reading → Result (Unit {0}) InputFault → Type 0
AddedLine line (Ok reading) old new (Ok u) = new ≡ old ++ reading ∷ []
AddedLine line (Ok reading) old new (Err fault) = (fault ≡ Memory line) × (new ≡ old)
AddedLine line (Err why) old new result = (result ≡ Err why) × (new ≡ old)

-- a fault in words, with its line
abbrev pub input_message : InputFault → List ℕ
input_message (Line line wrong) = codes "line " ++ (decimal line ++ (codes ": " ++ message wrong))
input_message (TooMany line) = codes "line " ++ (decimal line ++ (codes ": too many readings, at most " ++ decimal most_readings))
input_message (Memory line) = codes "line " ++ (decimal line ++ codes ": no memory left for it")
