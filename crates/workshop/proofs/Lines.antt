-- Lines are read as what they say.
use Rattle.std.proofs.Common.{◌≡◌, ℕ, zero, suc, ◌^◌, ◌<◌, true, List, [], ◌∷◌, ◌++◌, length, get_or, take, drop, Some, None, Ok, Err, decimal, Option, Result, sym, refl, ap, ◌∙◌, subst, append-nil, arith, take-append-drop, lt-ltb}
use lib.Seq.{take-append_seam, drop-append_seam}
use Rattle.std.specs.Str.{all_ascii_digits}
use Rattle.std.proofs.lemmas.Fmt.{digits_decimal, digits_value-decimal, decimal-digits_value, decimal_nonempty, first_decimal, decimal_digit}
use Rattle.workshop.specs.declared.reading.Reading.{Reading}
use Rattle.workshop.specs.declared.wrong.Field.{Field}
use Rattle.workshop.specs.declared.wrong.Field.TheVariants.{Truck, Tyre, Kpa}
use Rattle.workshop.specs.declared.wrong.Wrong.{Wrong}
use Rattle.workshop.specs.Fields.{label}
use Rattle.workshop.specs.Lines.{after, digit_count, read_on, is_numeral, number_of, read_number, number_after, read_field, at_end, read_line, and_then, line_text, Fits, ReadsBack, ReadsNothingElse}
use Rattle.workshop.proofs.Digits.{own, front_digits}
use Rattle.workshop.proofs.Labels.{after_label, from_after}

-- ---- a number

numeral_from : (ds : List ℕ) → 0 < length ds → (get_or ds 0 0 ≡ 48 → length ds ≡ 1) → is_numeral ds ≡ true
numeral_from [] some first = absurd (omega arith)
numeral_from (c ∷ []) some first = refl
numeral_from (c ∷ d ∷ ds) some first = grind arith

from_numeral : (ds : List ℕ) → is_numeral ds ≡ true → (0 < length ds) × (get_or ds 0 0 ≡ 48 → length ds ≡ 1)
from_numeral [] h = grind arith
from_numeral (c ∷ []) h = (omega arith, λ _. refl)
from_numeral (c ∷ d ∷ ds) h = grind arith

is_numeral_lem : (n : ℕ) → n < 65536 → is_numeral (decimal n) ≡ true
is_numeral_lem n h = numeral_from (decimal n) (decimal_nonempty n (omega arith)) (first n h)
  where
    first : (n : ℕ) → n < 65536 → get_or (decimal n) 0 0 ≡ 48 → length (decimal n) ≡ 1
    first zero h e = ap length (decimal_digit 0 (omega arith))
    first (suc n) h e = absurd (omega (arith, first_decimal (suc n) (omega arith) (omega arith)))

count_digits : (ds rest : List ℕ) → all_ascii_digits ds ≡ true → digit_count rest ≡ 0 → digit_count (ds ++ rest) ≡ length ds
count_digits [] rest h none = none
count_digits (c ∷ ds) rest h none = let more = count_digits ds rest in grind arith

took : (f : Field) (ds t : List ℕ) (n : ℕ) (rest : List ℕ) → number_of f ds t ≡ Ok (n, rest) → (is_numeral ds ≡ true) × (read_on 0 ds < 65536) × (read_on 0 ds ≡ n) × (t ≡ rest)
took f ds t n rest e = grind arith

-- ---- a field

number_back : (f : Field) (n : ℕ) (rest : List ℕ) → n < 65536 → digit_count rest ≡ 0 → read_number f (decimal n ++ rest) ≡ Ok (n, rest)
number_back f n rest h none =
    let wide : n < 2 ^ 64 = omega arith in
    rw (count_digits (decimal n) rest (digits_decimal own n wide) none)
    (rw (take-append_seam, drop-append_seam, is_numeral_lem n h, digits_value-decimal own n wide, lt-ltb n 65536 h))

field_back : (f : Field) (n : ℕ) (rest : List ℕ) → n < 65536 → digit_count rest ≡ 0 → read_field f (label f ++ (decimal n ++ rest)) ≡ Ok (n, rest)
field_back f n rest h none = rw (after_label (label f) (decimal n ++ rest)) (number_back f n rest h none)

from_number : (f : Field) (bs : List ℕ) (n : ℕ) (rest : List ℕ) → read_number f bs ≡ Ok (n, rest) → (n < 65536) × (bs ≡ decimal n ++ rest)
from_number f bs n rest e =
    let ds : List ℕ = take (digit_count bs) bs in
    let t = took f ds (drop (digit_count bs) bs) n rest e in
    let plain = from_numeral ds t.0 in
    let text = decimal-digits_value own ds (front_digits bs) plain.0 plain.1 (omega (arith, t.1)) in
    let whole = take-append-drop (digit_count bs) bs in
    (omega (arith, t.1, t.2), cc (t.2, t.3))

from_field : (f : Field) (bs : List ℕ) (n : ℕ) (rest : List ℕ) → read_field f bs ≡ Ok (n, rest) → (n < 65536) × (bs ≡ label f ++ (decimal n ++ rest))
from_field f bs n rest e = from (after (label f) bs) refl e
  where
    from : (o : Option (List ℕ)) → after (label f) bs ≡ o → number_after f o ≡ Ok (n, rest) → (n < 65536) × (bs ≡ label f ++ (decimal n ++ rest))
    from None a e = cc
    from (Some text) a e =
        let t = from_number f text n rest e in
        (t.0, from_after (label f) bs text a ∙ ap (λ x. label f ++ x) t.1)

-- ---- a line

pub line_read : {truck tyre kpa : ℕ} (bs first second third : List ℕ) → Ok (truck, first) ≡ read_field Truck bs → Ok (tyre, second) ≡ read_field Tyre first → Ok (kpa, third) ≡ read_field Kpa second → at_end (record { truck = truck; tyre = tyre; kpa = kpa }) third ≡ read_line bs
line_read bs first second third a b c = rw (← a) (rw (← b) (rw (← c) refl))

pub reads_back : ReadsBack
reads_back r fits =
    sym (line_read (line_text r) _ _ []
    (sym (field_back Truck r.truck _ fits.truck refl))
    (sym (field_back Tyre r.tyre _ fits.tyre refl))
    (sym (ap (λ t. read_field Kpa (label Kpa ++ t)) (sym (append-nil (decimal r.kpa))) ∙ field_back Kpa r.kpa [] fits.kpa refl)))

then_ok : {A B E : Type 0} (r : Result A E) (f : A → Result B E) (y : B) → and_then r f ≡ Ok y → (x : A) × (r ≡ Ok x) × (f x ≡ Ok y)
then_ok (Ok x) f y e = (x, refl, e)
then_ok (Err w) f y e = cc

at_end_lem : (r s : Reading) (rest : List ℕ) → at_end r rest ≡ Ok s → (r ≡ s) × (rest ≡ [])
at_end_lem r s [] e = (cc, refl)
at_end_lem r s (b ∷ bs) e = grind arith

-- what is read after the first field, after the second and after the third
abbrev at_kpa : ℕ → ℕ → ℕ × List ℕ → Result Reading Wrong
at_kpa truck tyre kpa = at_end (record { truck = truck; tyre = tyre; kpa = kpa.0 }) kpa.1

abbrev at_tyre : ℕ → ℕ × List ℕ → Result Reading Wrong
at_tyre truck tyre = and_then (read_field Kpa tyre.1) (at_kpa truck tyre.0)

abbrev at_truck : ℕ × List ℕ → Result Reading Wrong
at_truck truck = and_then (read_field Tyre truck.1) (at_tyre truck.0)

joined : (bs first second third : List ℕ) (truck tyre kpa : ℕ) → bs ≡ label Truck ++ (decimal truck ++ first) → first ≡ label Tyre ++ (decimal tyre ++ second) → second ≡ label Kpa ++ (decimal kpa ++ third) → third ≡ [] → bs ≡ line_text (record { truck = truck; tyre = tyre; kpa = kpa })
joined bs first second third truck tyre kpa a b c d = cc (append-nil (decimal kpa))

pub reads_nothing_else : ReadsNothingElse
reads_nothing_else bs r e =
    let truck = then_ok (read_field Truck bs) at_truck r e in
    let tyre = then_ok (read_field Tyre truck.0.1) (at_tyre truck.0.0) r truck.2 in
    let kpa = then_ok (read_field Kpa tyre.0.1) (at_kpa truck.0.0 tyre.0.0) r tyre.2 in
    let end = at_end_lem _ r kpa.0.1 kpa.2 in
    let first = from_field Truck bs _ _ truck.1 in
    let second = from_field Tyre truck.0.1 _ _ tyre.1 in
    let third = from_field Kpa tyre.0.1 _ _ kpa.1 in
    subst (λ r. Fits r × (bs ≡ line_text r)) end.0
    (record { truck = first.0; tyre = second.0; kpa = third.0 }, joined _ _ _ _ _ _ _ first.1 second.1 third.1 end.1)
