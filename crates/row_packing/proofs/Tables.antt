-- Tables of a log: the deltas of its stripes, and entries taken stripe by stripe.
use borrow.Rule.Slice.PartMut.{put_mid}
use Rattle.std.proofs.Common.{◌≡◌, ℕ, zero, suc, true, false, ◌+◌, ◌-◌, ◌*◌, ◌<◌, ◌≤◌, List, [], ◌∷◌, ◌++◌, map, length, take, drop, replicate, None, Ok, Err, Option, Result, sym, refl, ap, ◌∙◌, arith}
use Rattle.std.specs.List.{range_with_len}
use Rattle.std.proofs.lemmas.List.{append_assoc, append-nil, map-append, length-map, length-append, take-append-drop, drop-replicate, take_at}
use Rattle.std.proofs.lemmas.Slice.{take-put_mid, drop-put_mid}
use Rattle.std.proofs.lemmas.Bool.Decides.{nat_tests}
use Rattle.std.proofs.Math.Seq.{drop-append-add}
use Rattle.geometry.specs.Keys.{key_number, is_key}
use Rattle.fragment.specs.declared.delta.Delta.{Delta}
use Rattle.fragment.specs.Slots.{Filled, delta_of}
use Rattle.fragment.specs.Fragments.{deltas_answer}
use Rattle.fragment.specs.declared.cause.Cause.{Cause}
use Rattle.ordered.specs.declared.fault.MapFault.{MapFault}
use Rattle.server.specs.Meaning.{Meaning}
use Rattle.rack.specs.Worlds.{Table, with_entries}
use Rattle.manager.specs.Taking.{slots_with, take_all_answer, take_all_after}
use Rattle.manager.proofs.Deltas.{new_blocks_by_deltas, taken_by_deltas}
use Rattle.row_packing.specs.declared.fault.PackFault.{PackFault}
use Rattle.row_packing.specs.declared.fault.PackFault.TheVariants.{Spent, Bad, TableFull}
use Rattle.row_packing.specs.Tables.{SlotsRead, slots_answer, fragment_slots, joined, slots_of, stripe_slots, stripe_deltas, deltas_in, deltas_read, stripe_answer, stripe_after, log_slots, index_answer, index_after}
use Rattle.row_packing.proofs.Counts.{left_more, left_none}

-- ---- slots joined

joined_append : (xs ys : List (Option Filled)) (r : SlotsRead) → joined (Ok xs) (joined (Ok ys) r) ≡ joined (Ok (xs ++ ys)) r
joined_append xs ys (Ok zs) = ap (λ t. Ok t) (sym (append_assoc xs ys zs))
joined_append xs ys (Err f) = refl

joined_none : (r : SlotsRead) → joined (Ok []) r ≡ r
joined_none (Ok xs) = refl
joined_none (Err f) = refl

-- ---- a fragment that is fetched reads as its bytes do

pub bytes_read : (a : Result (Unit {0}) MapFault) (r : Result (List (Option Filled)) Cause) (ds : List (Option Delta)) → a ≡ Ok tt → Ok ds ≡ deltas_answer r → Ok ds ≡ deltas_in (slots_answer a r)
bytes_read (Ok u) (Ok xs) ds e h = cc
bytes_read (Ok u) (Err c) ds e h = cc
bytes_read (Err f) r ds e h = cc

pub bytes_bad : (a : Result (Unit {0}) MapFault) (r : Result (List (Option Filled)) Cause) (c : Cause) → a ≡ Ok tt → Err c ≡ deltas_answer r → Err (Bad c) ≡ deltas_in (slots_answer a r)
bytes_bad (Ok u) (Ok xs) c e h = cc
bytes_bad (Ok u) (Err x) c e h = cc
bytes_bad (Err f) r c e h = cc

-- ---- deltas, with none behind

padded : (xs : List (Option Filled)) (m : ℕ) → map delta_of (xs ++ replicate m None) ≡ map delta_of xs ++ replicate m None
padded [] zero = refl
padded [] (suc m) = ap (λ ds. None ∷ ds) (padded [] m)
padded (x ∷ xs) m = ap (λ ds. delta_of x ∷ ds) (padded xs m)

-- three written behind these
put_behind : (us es : List (Option Delta)) (a k m : ℕ) → length us ≡ a → length es ≡ 3 → k ≡ 3 → put_mid a k (us ++ replicate m None) es ≡ us ++ es ++ replicate (m - 3) None
put_behind us es a k m l e q =
    let xs : List (Option Delta) = us ++ replicate m None in
    let long : a ≤ length xs = let n = length-append us (replicate m None) in omega arith in
    let front : take a xs ≡ us = take_at us (replicate m None) a l in
    let back : drop (a + 3) xs ≡ replicate (m - 3) None = ap (λ n. drop (n + 3) xs) (sym l) ∙ drop-append-add us (replicate m None) 3 ∙ drop-replicate 3 m None in
    sym (take-append-drop (a + 3) (put_mid a k xs es))
    ∙ ap (λ t. t ++ drop (a + 3) (put_mid a k xs es)) (take-put_mid a k xs es (a + 3) (omega arith) long ∙ ap (λ t. t ++ es) front)
    ∙ ap (λ t. us ++ es ++ t) (drop-put_mid a k xs es (a + 3) (omega arith) long (e ∙ sym q) ∙ back)

-- a stripe of which i data fragments are read: their slots, and their deltas with none behind
pub record ReadTo (was : List Meaning) (n : ℕ) (missing : Option ℕ) (k i : ℕ) (ds : List (Option Delta)) : Type 0 where
  pub slots : List (Option Filled)
  pub long : length slots ≡ 3 * i
  pub deltas : ds ≡ map delta_of slots ++ replicate (21 - 3 * i) None
  pub rest : joined (Ok slots) (slots_of was n missing k (range_with_len i (n - 1 - i))) ≡ stripe_slots was n missing k

module _ (was : List Meaning) (n : ℕ) (missing : Option ℕ) (k : ℕ) where
  pub read_none : ReadTo was n missing k 0 (replicate 21 None)
  read_none = record { slots = []; long = refl; deltas = refl; rest = ap (λ m. joined (Ok []) (slots_of was n missing k (range_with_len 0 m))) (omega arith) ∙ joined_none _ }

  module _ (i : ℕ) (ds : List (Option Delta)) (t : ReadTo was n missing k i ds) where
    pub read_more : (es : List (Option Delta)) (a m : ℕ) → i < n - 1 → length es ≡ 3 → a ≡ 3 * i → m ≡ 3 → Ok es ≡ deltas_in (fragment_slots was n missing k i) → ReadTo was n missing k (i + 1) (put_mid a m ds es)
    read_more es a m h e p q read = by (fragment_slots was n missing k i) refl read
      where
        by : (r : SlotsRead) → fragment_slots was n missing k i ≡ r → Ok es ≡ deltas_in r → ReadTo was n missing k (i + 1) (put_mid a m ds es)
        by (Err f) is g = cc
        by (Ok ys) is g =
            let same : es ≡ map delta_of ys = cc in
            let us : List (Option Delta) = map delta_of t.slots in
            let much = length-map t.slots delta_of in
            let few = ap length same ∙ length-map ys delta_of in
            record {
              slots = t.slots ++ ys;
              long = length-append t.slots ys ∙ omega (arith, t.long);
              deltas =
                  ap (λ xs. put_mid a m xs es) t.deltas
                  ∙ put_behind us es a m (21 - 3 * i) (much ∙ t.long ∙ sym p) e q
                  ∙ ap (λ vs. us ++ vs ++ replicate (21 - 3 * i - 3) None) same
                  ∙ ap (λ vs. vs ++ replicate (21 - 3 * i - 3) None) (sym (map-append delta_of t.slots ys))
                  ∙ ap (λ c. map delta_of (t.slots ++ ys) ++ replicate c None) (omega arith);
              rest =
                  sym (joined_append t.slots ys _)
                  ∙ ap (λ r. joined (Ok t.slots) (joined r (slots_of was n missing k (range_with_len (i + 1) (n - 1 - (i + 1)))))) (sym is)
                  ∙ ap (λ js. joined (Ok t.slots) (slots_of was n missing k js)) (sym (left_more i (n - 1) h))
                  ∙ t.rest;
            }

    pub read_stops : (f : PackFault) → i < n - 1 → Err f ≡ deltas_in (fragment_slots was n missing k i) → Err f ≡ deltas_read (stripe_slots was n missing k)
    read_stops f h read = by (fragment_slots was n missing k i) refl read
      where
        by : (r : SlotsRead) → fragment_slots was n missing k i ≡ r → Err f ≡ deltas_in r → Err f ≡ deltas_read (stripe_slots was n missing k)
        by (Ok ys) is g = cc
        by (Err e) is g =
            let same : e ≡ f = cc in
            ap (λ p. Err p) (sym same)
            ∙ ap (λ r. deltas_read (joined (Ok t.slots) (joined r (slots_of was n missing k (range_with_len (i + 1) (n - 1 - (i + 1))))))) (sym is)
            ∙ ap (λ js. deltas_read (joined (Ok t.slots) (slots_of was n missing k js))) (sym (left_more i (n - 1) h))
            ∙ ap deltas_read t.rest

    pub read_all : n - 1 ≤ i → Ok ds ≡ deltas_read (stripe_slots was n missing k)
    read_all h =
        ap (λ xs. Ok xs) (t.deltas ∙ ap (λ c. map delta_of t.slots ++ replicate (21 - c) None) (sym t.long) ∙ sym (padded t.slots (21 - length t.slots)))
        ∙ ap (λ xs. deltas_read (Ok xs)) (sym (append-nil t.slots))
        ∙ ap (λ js. deltas_read (joined (Ok t.slots) (slots_of was n missing k js))) (sym (left_none i (n - 1) h))
        ∙ ap deltas_read t.rest

-- ---- one stripe taken

-- the slots with these deltas are taken into table t
module _ (t : Table) (k : ℕ) (ds : List (Option Delta)) where
  answer_by : (xs : List (Option Filled)) (n : ℕ) → Ok n ≡ take_all_answer t k (slots_with ds) → ds ≡ stripe_deltas xs → Ok tt ≡ stripe_answer t (Ok xs)
  answer_by xs n e is = let new = new_blocks_by_deltas ds xs (21 - length xs) is t.entries in grind (arith, nat_tests)

  refusal_by : (xs : List (Option Filled)) (f : MapFault) → Err f ≡ take_all_answer t k (slots_with ds) → ds ≡ stripe_deltas xs → Err TableFull ≡ stripe_answer t (Ok xs)
  refusal_by xs f e is = let new = new_blocks_by_deltas ds xs (21 - length xs) is t.entries in grind (arith, nat_tests)

  after_by : (xs : List (Option Filled)) → ds ≡ stripe_deltas xs → with_entries t (take_all_after t k (slots_with ds)) ≡ stripe_after t k (Ok xs)
  after_by xs is =
      let new = new_blocks_by_deltas ds xs (21 - length xs) is t.entries in
      let all = taken_by_deltas ds xs (21 - length xs) is k 0 t.entries in
      grind (arith, nat_tests)

  pub takes_all : (r : SlotsRead) (n : ℕ) → Ok n ≡ take_all_answer t k (slots_with ds) → Ok ds ≡ deltas_read r → Ok tt ≡ stripe_answer t r
  takes_all (Ok xs) n e read = answer_by xs n e (cc)
  takes_all (Err f) n e read = cc

  pub takes_none : (r : SlotsRead) (f : MapFault) → Err f ≡ take_all_answer t k (slots_with ds) → Ok ds ≡ deltas_read r → Err TableFull ≡ stripe_answer t r
  takes_none (Ok xs) f e read = refusal_by xs f e (cc)
  takes_none (Err x) f e read = cc

  pub leaves : (r : SlotsRead) (u : Table) → u.room ≡ t.room → u.entries ≡ take_all_after t k (slots_with ds) → Ok ds ≡ deltas_read r → u ≡ stripe_after t k r
  leaves (Ok xs) u m e read = rw (m, e) (after_by xs (cc))
  leaves (Err f) u m e read = cc

-- ---- stripe after stripe

module _ (was : List Meaning) (n : ℕ) (missing : Option ℕ) (client i count : ℕ) (h : i < count) (t u : Table) where
  abbrev here : SlotsRead
  here = log_slots was n missing client i

  abbrev from : ℕ → List ℕ
  from j = range_with_len j (count - j)

  -- a stripe whose slots take entries
  pub goes_on : Ok tt ≡ stripe_answer t here → u ≡ stripe_after t (key_number client i) here → (index_answer was n missing client u (from (i + 1)) ≡ index_answer was n missing client t (from i)) × (index_after was n missing client u (from (i + 1)) ≡ index_after was n missing client t (from i))
  goes_on e after = rw (left_more i count h, ← e, after) (refl, refl)

  -- one that is refused
  pub stops : (f : PackFault) → Err f ≡ stripe_answer t here → u ≡ stripe_after t (key_number client i) here → (Err f ≡ index_answer was n missing client t (from i)) × (u ≡ index_after was n missing client t (from i))
  stops f e after = rw (left_more i count h, ← e, after) (refl, refl)

-- ---- the slots of a log's stripe

pub spent : (was : List Meaning) (n : ℕ) (missing : Option ℕ) (client j : ℕ) (t : Table) → is_key client j ≡ false → (Err Spent ≡ stripe_answer t (log_slots was n missing client j)) × (t ≡ stripe_after t (key_number client j) (log_slots was n missing client j))
spent was n missing client j t e = rw e (refl, refl)

pub taken_here : (was : List Meaning) (n : ℕ) (missing : Option ℕ) (client j : ℕ) → is_key client j ≡ true → log_slots was n missing client j ≡ stripe_slots was n missing (key_number client j)
taken_here was n missing client j e = rw e refl
