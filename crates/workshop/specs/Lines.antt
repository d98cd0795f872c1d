-- A reading as a line of text.
use Rattle.std.specs.Prelude.{◌≡◌, ℕ, ◌+◌, ◌-◌, ◌*◌, ◌<◌, Bool, true, false, if◌then◌else◌, not, List, [], ◌∷◌, ◌++◌, length, take, drop, Some, None, Ok, Err, decimal, Option, Result, ◌==◌, nat_lt}
use Rattle.std.specs.Char.{is_ascii_digit}
use Rattle.std.specs.List.{prefix_len}
use Rattle.workshop.specs.declared.reading.Reading.{Reading}
use Rattle.workshop.specs.declared.reading.Taken.{Taken}
use Rattle.workshop.specs.declared.wrong.Field.{Field}
use Rattle.workshop.specs.declared.wrong.Field.TheVariants.{Truck, Tyre, Kpa}
use Rattle.workshop.specs.declared.wrong.Wrong.{Wrong}
use Rattle.workshop.specs.declared.wrong.Wrong.TheVariants.{Missing, NotANumber, TooLarge, Trailing}
use Rattle.workshop.specs.Fields.{label}

-- the line of a reading
abbrev pub line_text : Reading → List ℕ
line_text r = label Truck ++ (decimal r.truck ++ (label Tyre ++ (decimal r.tyre ++ (label Kpa ++ decimal r.kpa))))

-- ---- reading a line from its front

abbrev pub and_then : {A B E : Type 0} → Result A E → (A → Result B E) → Result B E
and_then (Ok x) f = f x
and_then (Err e) f = Err e

-- what follows a label
abbrev pub after : List ℕ → List ℕ → Option (List ℕ)
after [] bs = Some bs
after (p ∷ ps) [] = None
after (p ∷ ps) (b ∷ bs) = if b == p then after ps bs else None

-- how many digits stand in front
abbrev pub digit_count : List ℕ → ℕ
digit_count bs = prefix_len is_ascii_digit bs

-- the number that digits write, after those of n
abbrev pub read_on : ℕ → List ℕ → ℕ
read_on n [] = n
read_on n (c ∷ cs) = read_on (n * 10 + (c - 48)) cs

-- one digit, or more with no leading zero
abbrev pub is_numeral : List ℕ → Bool
is_numeral [] = false
is_numeral (c ∷ []) = true
is_numeral (c ∷ d ∷ ds) = not (c == 48)

-- the number that digits write, with what follows them
abbrev pub number_of : Field → List ℕ → List ℕ → Result (ℕ × List ℕ) Wrong
number_of f ds rest = if is_numeral ds then (if nat_lt (read_on 0 ds) 65536 then Ok (read_on 0 ds, rest) else Err (TooLarge f)) else Err (NotANumber f)

-- a number that the code took, as such a number
abbrev pub taken_in : Result Taken Wrong → Result (ℕ × List ℕ) Wrong
taken_in (Ok taken) = Ok (taken.number, taken.rest.now)
taken_in (Err wrong) = Err wrong

abbrev pub read_number : Field → List ℕ → Result (ℕ × List ℕ) Wrong
read_number f bs = number_of f (take (digit_count bs) bs) (drop (digit_count bs) bs)

abbrev pub number_after : Field → Option (List ℕ) → Result (ℕ × List ℕ) Wrong
number_after f None = Err (Missing f)
number_after f (Some bs) = read_number f bs

abbrev pub read_field : Field → List ℕ → Result (ℕ × List ℕ) Wrong
read_field f bs = number_after f (after (label f) bs)

-- the reading, if nothing follows it
abbrev pub at_end : Reading → List ℕ → Result Reading Wrong
at_end r rest = if length rest == 0 then Ok r else Err Trailing

abbrev pub read_line : List ℕ → Result Reading Wrong
read_line bs =
    and_then (read_field Truck bs) (λ truck.
    and_then (read_field Tyre truck.1) (λ tyre.
    and_then (read_field Kpa tyre.1) (λ kpa.
    at_end (record { truck = truck.0; tyre = tyre.0; kpa = kpa.0 }) kpa.1)))

-- ---- what it is to read lines

-- each of the numbers is from 0 to 65,535
pub record Fits (r : Reading) : Type 0 where
  pub truck : r.truck < 65536
  pub tyre : r.tyre < 65536
  pub kpa : r.kpa < 65536

-- every reading is read back from its line
abbrev pub ReadsBack : Type 0
ReadsBack = (r : Reading) → Fits r → read_line (line_text r) ≡ Ok r

-- and from no other text
abbrev pub ReadsNothingElse : Type 0
ReadsNothingElse = (bs : List ℕ) (r : Reading) → read_line bs ≡ Ok r → Fits r × (bs ≡ line_text r)
