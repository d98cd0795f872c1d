-- Decimal digits and the numbers that they write.
use Rattle.std.proofs.Common.{◌≡◌, ℕ, ◌+◌, ◌-◌, ◌*◌, min, fold, Bool, true, false, cond, List, [], ◌∷◌, take, refl, one-add, arith, rules}
use Rattle.std.specs.Str.{all_ascii_digits}
use Rattle.std.specs.Char.{is_ascii_digit}
use Rattle.std.proofs.lemmas.Str.Parse.{IsNumeralModel, tells_all_ascii_digits, numerals_by_fold}
use Rattle.workshop.specs.Lines.{digit_count, read_on}

pub own : IsNumeralModel (λ ds. all_ascii_digits ds ≡ true) (read_on 0)
own = numerals_by_fold _ tells_all_ascii_digits read_on (search rules)

-- one digit more, kept below a bound that is too large
abbrev pub more : ℕ → ℕ → ℕ
more n c = min (n * 10 + (c - 48)) 65536

-- so the number is kept, up to the bound
pub kept : (ds : List ℕ) (n m : ℕ) → m ≡ min n 65536 → fold more m ds ≡ min (read_on n ds) 65536
kept [] n m e = e
kept (c ∷ cs) n m e = kept cs (n * 10 + (c - 48)) (more m c) (omega arith)

front_more : (t : Bool) (b : ℕ) (bs : List ℕ) → is_ascii_digit b ≡ t → all_ascii_digits (take (digit_count bs) bs) ≡ true → all_ascii_digits (take (cond t (1 + digit_count bs) 0) (b ∷ bs)) ≡ true
front_more true b bs e h = rw one-add (rw e h)
front_more false b bs e h = refl

-- the digits in front are digits
pub front_digits : (bs : List ℕ) → all_ascii_digits (take (digit_count bs) bs) ≡ true
front_digits [] = refl
front_digits (b ∷ bs) = front_more (is_ascii_digit b) b bs refl (front_digits bs)
