-- What slots leave in a table depends on their deltas alone, and empty ones leave nothing.
use Rattle.std.proofs.Common.{◌≡◌, ℕ, zero, suc, ◌+◌, ◌-◌, not, List, [], ◌∷◌, ◌++◌, map, filter, length, replicate, Some, None, Ok, Option, refl, ap, ◌∙◌, arith}
use Rattle.std.proofs.lemmas.Bool.Decides.{nat_tests}
use Rattle.fragment.specs.declared.delta.Delta.{Delta}
use Rattle.fragment.specs.Slots.{Filled, delta_of}
use Rattle.stripe.specs.Contents.{deltas_of}
use Rattle.ordered.specs.Maps.{has}
use Rattle.rack.specs.Lists.{in_order}
use Rattle.rack.specs.Entries.{Entry, entry_block, block_in}
use Rattle.rack.specs.Fragments.{has_delta, slot_number, cause_in}
use Rattle.rack.specs.Restarting.{filled_in}
use Rattle.rack.specs.Sealing.{take_one, taken, passed_over, not_taken, new_blocks}
use Rattle.manager.specs.Taking.{slots_with, blocks_in}

-- ---- slots, then so many empty ones

abbrev padded : List (Option Filled) → ℕ → List (Option Filled)
padded xs m = xs ++ replicate m None

taken_padded : (k j m : ℕ) (es : List Entry) (xs : List (Option Filled)) → taken k j es (slots_with (map delta_of (padded xs m))) ≡ taken k j es xs
taken_padded k j zero es [] = refl
taken_padded k j (suc m) es [] = taken_padded k (j + 1) m es []
taken_padded k j m es (None ∷ xs) = taken_padded k (j + 1) m es xs
taken_padded k j m es (Some x ∷ xs) = taken_padded k (j + 1) m (take_one k j es (Some x)) xs

not_taken_padded : (k j m : ℕ) (es : List Entry) (xs : List (Option Filled))
    → not_taken k j es (slots_with (map delta_of (padded xs m))) ≡ not_taken k j es xs
not_taken_padded k j zero es [] = refl
not_taken_padded k j (suc m) es [] = let ih = not_taken_padded k (j + 1) m es [] in omega arith
not_taken_padded k j m es (None ∷ xs) = ap (λ n. 0 + n) (not_taken_padded k (j + 1) m es xs)
not_taken_padded k j m es (Some x ∷ xs) =
    ap (λ n. passed_over es (Some x) + n) (not_taken_padded k (j + 1) m (take_one k j es (Some x)) xs)

blocks_padded : (m : ℕ) (xs : List (Option Filled)) → blocks_in (map delta_of (padded xs m)) ≡ map block_in (filled_in xs)
blocks_padded zero [] = refl
blocks_padded (suc m) [] = blocks_padded m []
blocks_padded m (None ∷ xs) = blocks_padded m xs
blocks_padded m (Some x ∷ xs) = ap (λ bs. block_in x ∷ bs) (blocks_padded m xs)

-- whether a fragment's slots hold its entries depends on their deltas too
held_by_deltas : (e : Entry) (xs : List (Option Filled)) (j : ℕ)
    → has_delta e (slot_number (slots_with (map delta_of xs)) j) ≡ has_delta e (slot_number xs j)
held_by_deltas e [] j = refl
held_by_deltas e (None ∷ xs) zero = refl
held_by_deltas e (Some x ∷ xs) zero = refl
held_by_deltas e (x ∷ xs) (suc j) = held_by_deltas e xs j

pub cause_by_deltas : (xs : List (Option Filled)) (es : List Entry) → cause_in (Ok (slots_with (map delta_of xs))) es ≡ cause_in (Ok xs) es
cause_by_deltas xs [] = refl
cause_by_deltas xs (e ∷ es) =
    let h = held_by_deltas e xs e.slot in let ih = cause_by_deltas xs es in grind (arith, nat_tests)

-- ds are the deltas of slots xs, and then of empty ones
module _ (ds : List (Option Delta)) (xs : List (Option Filled)) (m : ℕ) (are : ds ≡ map delta_of (xs ++ replicate m None)) where
  pub taken_by_deltas : (k j : ℕ) (es : List Entry) → taken k j es (slots_with ds) ≡ taken k j es xs
  taken_by_deltas k j es = ap (λ ds. taken k j es (slots_with ds)) are ∙ taken_padded k j m es xs

  pub not_taken_by_deltas : (k j : ℕ) (es : List Entry) → not_taken k j es (slots_with ds) ≡ not_taken k j es xs
  not_taken_by_deltas k j es = ap (λ ds. not_taken k j es (slots_with ds)) are ∙ not_taken_padded k j m es xs

  pub new_blocks_by_deltas : (es : List Entry) → new_blocks es (filled_in (slots_with ds)) ≡ new_blocks es (filled_in xs)
  new_blocks_by_deltas es = ap (λ bs. in_order (filter (λ b. not (has entry_block es b)) bs)) (ap blocks_in are ∙ blocks_padded m xs)

-- ---- the slots of a stripe being filled

pub deltas_padded : (xs : List Filled) → deltas_of xs ≡ map delta_of (map Some xs ++ replicate (21 - length xs) None)
deltas_padded xs = go xs (21 - length xs)
  where
    go : (xs : List Filled) (m : ℕ) → map (λ x. Some x.delta) xs ++ replicate m None ≡ map delta_of (map Some xs ++ replicate m None)
    go [] zero = refl
    go [] (suc m) = ap (λ ds. None ∷ ds) (go [] m)
    go (x ∷ xs) m = ap (λ ds. Some x.delta ∷ ds) (go xs m)

pub filled_all : (xs : List Filled) → filled_in (map Some xs) ≡ xs
filled_all [] = refl
filled_all (x ∷ xs) = ap (λ ys. x ∷ ys) (filled_all xs)
