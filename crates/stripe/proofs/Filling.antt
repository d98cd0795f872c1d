-- A stripe with one slot more.
use Rattle.std.proofs.Common.{◌≡◌, ℕ, zero, suc, ◌+◌, ◌*◌, ◌/◌, ◌%◌, ◌<◌, ◌≤◌, ◌≢◌, List, [], ◌∷◌, ◌++◌, map, length, get_or, drop, set, replicate, Some, None, Option, Ok, sym, refl, ap, subst, ◌∙◌, arith, length-set, get_or-set_other, get_or-set_same}
use native.Mathlib.Decide.{dec_lt}
use Rattle.std.specs.List.{range_with_len, flat_map, AllByRecursion}
use Rattle.std.specs.Option.{option_map}
use Rattle.std.proofs.lemmas.List.FromFn.{length-map-range_with_len, get_or-map-range_with_len, fill_by_all}
use Rattle.std.proofs.ByRecursion.{All-push}
use Rattle.std.proofs.lemmas.List.{length-append, drop_at}
use Rattle.geometry.specs.Sizes.{slot_length, head_length}
use Rattle.fragment.specs.declared.layout.Layout.TheVariants.{Two}
use Rattle.fragment.specs.declared.delta.Delta.{Delta}
use Rattle.fragment.specs.Slots.{Filled, Fair, FairSlot, slot_bytes, read_slot}
use Rattle.fragment.specs.Heads.{head_bytes}
use Rattle.fragment.specs.Fragments.{slot_in, put_slot, read_fragment}
use Rattle.stripe.specs.Contents.{slot_at, slots_of, data_bytes, open_bytes, open_fragments}
use Rattle.stripe.specs.Buffers.{no_slot, slot_read, bytes_at, slots_from, Formed}
use Rattle.stripe.specs.declared.buffer.StripeBuffer.{StripeBuffer}
use Rattle.stripe.specs.Means.{slots_in}
use Rattle.fragment.proofs.Laws.{reads_back}
use Rattle.fragment.proofs.Slots.{length-slot_bytes, reads_slot}
use Rattle.stripe.proofs.Chunks.{part_past, put_past, joined_at, joined_put}

-- the slots of a list with one more at its end
slot_last : (xs : List Filled) (x : Filled) (m : ℕ) → m ≡ length xs → slot_at (xs ++ x ∷ []) m ≡ Some x
slot_last [] x zero e = refl
slot_last [] x (suc m) e = absurd (omega arith)
slot_last (y ∷ ys) x zero e = absurd (omega arith)
slot_last (y ∷ ys) x (suc m) e = slot_last ys x m (omega arith)

slot_other : (xs : List Filled) (x : Filled) (m : ℕ) → m ≢ length xs → slot_at (xs ++ x ∷ []) m ≡ slot_at xs m
slot_other [] x zero h = absurd (h refl)
slot_other [] x (suc m) h = refl
slot_other (y ∷ ys) x zero h = refl
slot_other (y ∷ ys) x (suc m) h = slot_other ys x m (λ e. h (ap suc e))

pub slot_there : (xs : List Filled) (m : ℕ) (d : Filled) → m < length xs → slot_at xs m ≡ Some (get_or xs m d)
slot_there [] m d h = absurd (omega arith)
slot_there (x ∷ xs) zero d h = refl
slot_there (x ∷ xs) (suc m) d h = slot_there xs m d (omega arith)

pub slot_past : (xs : List Filled) (m : ℕ) → length xs ≤ m → slot_at xs m ≡ None
slot_past [] m h = refl
slot_past (x ∷ xs) zero h = absurd (omega arith)
slot_past (x ∷ xs) (suc m) h = slot_past xs m (omega arith)

pub slot_fair : (xs : List Filled) (m : ℕ) → AllByRecursion Fair xs → FairSlot (slot_at xs m)
slot_fair [] m a = tt
slot_fair (x ∷ xs) zero a = a.0
slot_fair (x ∷ xs) (suc m) a = slot_fair xs m a.1

-- the deltas of the slots, none past the filled ones
abbrev pub none : Option Delta
none = None

-- the delta of slot j
abbrev pub told : List Filled → ℕ → Option Delta
told xs j = option_map (λ x. x.delta) (slot_at xs j)

none_there : (m j : ℕ) → get_or (replicate m none) j none ≡ none
none_there zero j = refl
none_there (suc m) zero = refl
none_there (suc m) (suc j) = none_there m j

pub told_at : (xs : List Filled) (m j : ℕ) → get_or (map (λ x. Some x.delta) xs ++ replicate m none) j none ≡ told xs j
told_at [] m j = none_there m j
told_at (x ∷ xs) m zero = refl
told_at (x ∷ xs) m (suc j) = told_at xs m j

-- every slot has its length
slot_long : (xs : List Filled) (m : ℕ) → AllByRecursion Fair xs → length (slot_bytes (slot_at xs m)) ≡ slot_length
slot_long xs m a = length-slot_bytes (slot_at xs m) (slot_fair xs m a)

pub slots_long : (xs : List Filled) (i : ℕ) → AllByRecursion Fair xs → AllByRecursion (λ s. length (slot_bytes s) ≡ slot_length) (slots_of xs i)
slots_long xs i a = (slot_long xs (3 * i + 0) a, (slot_long xs (3 * i + 1) a, (slot_long xs (3 * i + 2) a, tt)))

-- slot j of data fragment i
bytes_there : (xs : List Filled) (i j : ℕ) → AllByRecursion Fair xs → j < 3 → slot_in (open_bytes xs i) j ≡ slot_bytes (slot_at xs (3 * i + j))
bytes_there xs i j a h =
    part_past (replicate head_length 0) (flat_map slot_bytes (slots_of xs i)) head_length (j * slot_length) slot_length refl
    ∙ joined_at slot_bytes slot_length (slots_of xs i) j None (slots_long xs i a) h
    ∙ ap slot_bytes (get_or-map-range_with_len (λ m. slot_at xs (3 * i + m)) 0 3 j j None h (omega arith))

-- data fragments with one slot more: the fragment that has it, and the others
set_slots : (xs : List Filled) (x : Filled) (i j : ℕ) → j < 3 → 3 * i + j ≡ length xs → set (slots_of xs i) j (Some x) ≡ slots_of (xs ++ x ∷ []) i
set_slots xs x i zero h e =
    let a = slot_last xs x (3 * i + 0) e in
    let b = slot_other xs x (3 * i + 1) (λ q. omega arith) in
    let c = slot_other xs x (3 * i + 2) (λ q. omega arith) in
    cc
set_slots xs x i (suc zero) h e =
    let a = slot_other xs x (3 * i + 0) (λ q. omega arith) in
    let b = slot_last xs x (3 * i + 1) e in
    let c = slot_other xs x (3 * i + 2) (λ q. omega arith) in
    cc
set_slots xs x i (suc (suc zero)) h e =
    let a = slot_other xs x (3 * i + 0) (λ q. omega arith) in
    let b = slot_other xs x (3 * i + 1) (λ q. omega arith) in
    let c = slot_last xs x (3 * i + 2) e in
    cc
set_slots xs x i (suc (suc (suc j))) h e = absurd (omega arith)

put_open : (xs : List Filled) (x : Filled) (i j : ℕ) → AllByRecursion Fair xs → j < 3 → 3 * i + j ≡ length xs → open_bytes (xs ++ x ∷ []) i ≡ put_slot j x (open_bytes xs i)
put_open xs x i j a h e =
    sym
    (put_past (replicate head_length 0) (flat_map slot_bytes (slots_of xs i)) (slot_bytes (Some x)) head_length (j * slot_length) slot_length refl
    ∙ ap (λ t. replicate head_length 0 ++ t)
    (joined_put slot_bytes slot_length (slots_of xs i) j (Some x) (slots_long xs i a) h ∙ ap (flat_map slot_bytes) (set_slots xs x i j h e)))

same_open : (xs : List Filled) (x : Filled) (i j m : ℕ) → j < 3 → 3 * i + j ≡ length xs → m ≢ i → open_bytes (xs ++ x ∷ []) m ≡ open_bytes xs m
same_open xs x i j m h e n =
    let a = slot_other xs x (3 * m + 0) (λ q. n (omega arith)) in
    let b = slot_other xs x (3 * m + 1) (λ q. n (omega arith)) in
    let c = slot_other xs x (3 * m + 2) (λ q. n (omega arith)) in
    cc

-- one element of a counted list set
set_counted : {X : Type 0} (g h : ℕ → X) (n i : ℕ) (d v : X) → i < n → h i ≡ v → ((m : ℕ) → m ≢ i → h m ≡ g m) → set (map g (range_with_len 0 n)) i v ≡ map h (range_with_len 0 n)
set_counted g h n i d v l e o =
    let long : length (map g (range_with_len 0 n)) ≡ n = length-map-range_with_len g 0 n in
    let other : (m : ℕ) → m < n → m ≢ i → get_or (set (map g (range_with_len 0 n)) i v) m d ≡ h m =
    λ m b q. get_or-set_other (map g (range_with_len 0 n)) i m v d q ∙ get_or-map-range_with_len g 0 n m m d b (omega arith) ∙ sym (o m q) in
    fill_by_all h (set (map g (range_with_len 0 n)) i v) n d (length-set (map g (range_with_len 0 n)) i v ∙ long)
    (λ m b.
    elim (dec_lt m i) [
      | yes p ↦ other m b (λ q. omega arith)
      | no p ↦ elim (dec_lt i m) [
        | yes q ↦ other m b (λ r. omega arith)
        | no q ↦ (let s : m ≡ i = omega arith in
            ap (λ t. get_or (set (map g (range_with_len 0 n)) i v) t d) s
            ∙ get_or-set_same (map g (range_with_len 0 n)) i v d (omega arith) ∙ sym (ap h s ∙ e))
      ]
    ])

-- slot m of the stripe, as bytes, and read from them
pub bytes_at_lem : (xs : List Filled) (m : ℕ) → AllByRecursion Fair xs → m < 21 → bytes_at (open_fragments xs) m ≡ slot_bytes (slot_at xs m)
unfolding open_fragments
bytes_at_lem xs m a h =
    let i : m / 3 < 7 = omega arith in
    let e : 3 * (m / 3) + m % 3 ≡ m = omega arith in
    ap (λ t. slot_in t (m % 3)) (get_or-map-range_with_len (open_bytes xs) 0 7 (m / 3) (m / 3) [] i (omega arith))
    ∙ bytes_there xs (m / 3) (m % 3) a (omega arith)
    ∙ ap (λ t. slot_bytes (slot_at xs t)) e

pub read_at : (xs : List Filled) (m : ℕ) → AllByRecursion Fair xs → m < 21 → read_slot Two (bytes_at (open_fragments xs) m) ≡ Ok (slot_at xs m)
read_at xs m a h = ap (read_slot Two) (bytes_at_lem xs m a h) ∙ reads_slot (slot_at xs m) (slot_fair xs m a)

-- the slots of a stripe, read from its bytes, are those that it was made of
pub slots_back : (xs : List Filled) → AllByRecursion Fair xs → length xs ≤ 21 → slots_from (open_fragments xs) (length xs) ≡ xs
slots_back xs a few =
    sym
    (fill_by_all (λ j. slot_read (read_slot Two (bytes_at (open_fragments xs) j))) xs (length xs) no_slot refl
    (λ m h. sym (ap slot_read (read_at xs m a (omega arith)) ∙ ap (λ s. slot_read (Ok s)) (slot_there xs m no_slot h))))

pub length_slots : (b : StripeBuffer) → length (slots_in b) ≡ b.filled
length_slots b = length-map-range_with_len (λ j. slot_read (read_slot Two (bytes_at b.slots.fragments j))) 0 b.filled

-- a slot of a stripe, read from its bytes, and the bytes of a filled one
module _ (fragments : List (List ℕ)) (filled m : ℕ) (formed : Formed fragments filled)
    (fair : AllByRecursion Fair (slots_from fragments filled)) where
  abbrev slots : List Filled
  slots = slots_from fragments filled

  pub read_formed : m < 21 → read_slot Two (bytes_at fragments m) ≡ Ok (slot_at slots m)
  read_formed h = ap (λ t. read_slot Two (bytes_at t m)) formed ∙ read_at slots m fair h

  pub bytes_formed : filled ≤ 21 → m < filled → bytes_at fragments m ≡ slot_bytes (Some (get_or slots m no_slot))
  bytes_formed few h =
      let l = length-map-range_with_len (λ j. slot_read (read_slot Two (bytes_at fragments j))) 0 filled in
      ap (λ t. bytes_at t m) formed ∙ bytes_at_lem slots m fair (omega arith) ∙ ap slot_bytes (slot_there slots m no_slot (omega arith))

-- one slot more, in the place of the next
one_more : (xs : List Filled) (x : Filled) (m : ℕ) → AllByRecursion Fair xs → m ≡ length xs → m < 21 → set (open_fragments xs) (m / 3) (put_slot (m % 3) x (get_or (open_fragments xs) (m / 3) [])) ≡ open_fragments (xs ++ x ∷ [])
unfolding open_fragments
one_more xs x m a e h =
    let i : m / 3 < 7 = omega arith in
    let p : 3 * (m / 3) + m % 3 ≡ length xs = omega arith in
    let j : m % 3 < 3 = omega arith in
    ap (λ t. set (open_fragments xs) (m / 3) (put_slot (m % 3) x t)) (get_or-map-range_with_len (open_bytes xs) 0 7 (m / 3) (m / 3) [] i (omega arith))
    ∙ set_counted (open_bytes xs) (open_bytes (xs ++ x ∷ [])) 7 (m / 3) [] (put_slot (m % 3) x (open_bytes xs (m / 3))) i
    (put_open xs x (m / 3) (m % 3) a j p)
    (λ q n. same_open xs x (m / 3) (m % 3) q j p n)

-- a data fragment, once its head is written
pub headed : (n k i : ℕ) (xs : List Filled) (fragments : List (List ℕ)) → fragments ≡ open_fragments xs → i < 7 → head_bytes n k i ++ drop head_length (get_or fragments i []) ≡ data_bytes n k xs i
unfolding open_fragments
headed n k i xs fragments e h =
    ap (λ t. head_bytes n k i ++ drop head_length (get_or t i [])) e
    ∙ ap (λ t. head_bytes n k i ++ drop head_length t) (get_or-map-range_with_len (open_bytes xs) 0 7 i i [] h (omega arith))
    ∙ ap (λ t. head_bytes n k i ++ t) (drop_at (replicate head_length 0) (flat_map slot_bytes (slots_of xs i)) head_length refl)

-- and it reads back as the slots that it holds
pub reads_again : (n k i : ℕ) (xs : List Filled) → i + 1 < n → AllByRecursion Fair xs → read_fragment n k i (data_bytes n k xs i) ≡ Ok (slots_of xs i)
reads_again n k i xs h a =
    (reads_back n k i (slot_at xs (3 * i + 0)) (slot_at xs (3 * i + 1)) (slot_at xs (3 * i + 2)) h (slot_fair xs (3 * i + 0) a) (slot_fair xs (3 * i + 1) a) (slot_fair xs (3 * i + 2) a)).0

-- what a stripe holds after a slot is written in the place of the next
module _ (fragments after : List (List ℕ)) (m : ℕ) (x : Filled) (few : m < 21) (formed : Formed fragments m)
    (fair : AllByRecursion Fair (slots_from fragments m)) (new : Fair x)
    (put : after ≡ set fragments (m / 3) (put_slot (m % 3) x (get_or fragments (m / 3) []))) where
  abbrev old : List Filled
  old = slots_from fragments m

  grown : after ≡ open_fragments (old ++ x ∷ [])
  grown =
      put ∙ ap (λ t. set t (m / 3) (put_slot (m % 3) x (get_or t (m / 3) []))) formed
      ∙ one_more old x m fair (sym (length-map-range_with_len _ 0 m)) few

  fair_more : AllByRecursion Fair (old ++ x ∷ [])
  fair_more = All-push Fair old x fair new

  pub slots_grown : slots_from after (m + 1) ≡ old ++ x ∷ []
  slots_grown =
      let long : length (old ++ x ∷ []) ≡ m + 1 = length-append old (x ∷ []) ∙ ap (λ t. t + 1) (length-map-range_with_len _ 0 m) in
      ap (λ t. slots_from t (m + 1)) grown ∙ ap (slots_from (open_fragments (old ++ x ∷ []))) (sym long)
      ∙ slots_back (old ++ x ∷ []) fair_more (omega arith)

  pub still_formed : Formed after (m + 1)
  still_formed = grown ∙ ap open_fragments (sym slots_grown)

  pub still_fair : AllByRecursion Fair (slots_from after (m + 1))
  still_fair = subst (AllByRecursion Fair) (sym slots_grown) fair_more
