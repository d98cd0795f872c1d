-- The newest slot of a block, slot by slot.
use Rattle.std.proofs.Common.{◌≡◌, ℕ, ◌+◌, Bool, true, false, cond, nat_eq, nat_lt, List, [], ◌∷◌, ◌++◌, length, get_or, take, filter, fold, Some, None, Option, sym, refl, ap, ◌∙◌, subst, arith, IfSome}
use native.Mathlib.Decide.{dec_lt}
use Rattle.std.specs.Option.{option_map}
use Rattle.std.proofs.lemmas.List.{take_more, take_all}
use Rattle.std.proofs.lemmas.Bool.Decides.{nat_tests}
use Rattle.std.proofs.lemmas.List.Elements.{filter-append}
use Rattle.std.proofs.lemmas.List.Sums.{fold-append}
use Rattle.fragment.specs.declared.delta.Delta.{Delta}
use Rattle.fragment.specs.Slots.{Filled}
use Rattle.stripe.specs.Contents.{slot_at, deltas_of}
use Rattle.stripe.specs.Buffers.{no_slot}
use Rattle.stripe.proofs.Filling.{slot_there, slot_past, told_at}
use Rattle.rack.specs.Entries.{block_number, block_in}
use Rattle.rack.specs.Reading.{newer_slot}
use Rattle.open_stripe.specs.declared.newest.OpenSlot.{OpenSlot}
use Rattle.open_stripe.specs.Newest.{newest_in, newest_of_two, newer_of}

-- code has this slot of those of a stripe
abbrev pub Found : List Filled → Option Filled → Option OpenSlot → Type 0
Found xs n r = (option_map (λ s. s.delta) r ≡ option_map (λ x. x.delta) n) × IfSome r (λ s. slot_at xs s.slot ≡ n)

-- a slot more of the block
newer_found : (xs : List Filled) (n : Option Filled) (x : Filled) (r : Option OpenSlot) (s : OpenSlot) → Found xs n r → s.delta ≡ x.delta → slot_at xs s.slot ≡ Some x → Found xs (newer_slot n x) (Some (newer_of r s))
newer_found xs None x None s f e h = (ap Some e, h)
newer_found xs None x (Some r) s f e h = cc f.0
newer_found xs (Some y) x None s f e h = cc f.0
newer_found xs (Some y) x (Some r) s f e h =
    let same : r.delta ≡ y.delta = cc f.0 in
    subst (λ c. Found xs (Some (cond c x y)) (Some (newer_of (Some r) s)))
    (ap (λ (d : Delta). nat_lt d.version s.delta.version) same ∙ ap (λ (d : Delta). nat_lt y.delta.version d.version) e)
    (either (nat_lt r.delta.version s.delta.version))
  where
    either : (c : Bool) → Found xs (Some (cond c x y)) (Some (cond c s r))
    either true = (ap Some e, h)
    either false = f

-- the slots up to one that is filled, and to one that is not
module _ (xs : List Filled) (i : ℕ) where
  filled_to : (x : Filled) → slot_at xs i ≡ Some x → take (i + 1) xs ≡ take i xs ++ x ∷ []
  filled_to x e =
      elim (dec_lt i (length xs)) [
        | yes h ↦ (let t = slot_there xs i no_slot h in
            let same : get_or xs i no_slot ≡ x = cc in
            take_more xs i no_slot h ∙ ap (λ y. take i xs ++ y ∷ []) same)
        | no h ↦ (let n = slot_past xs i (omega arith) in cc)
      ]

  empty_to : slot_at xs i ≡ None → take (i + 1) xs ≡ take i xs
  empty_to e =
      elim (dec_lt i (length xs)) [
        | yes h ↦ (let t = slot_there xs i no_slot h in cc)
        | no h ↦ take_all (i + 1) xs (omega arith) ∙ sym (take_all i xs (omega arith))
      ]

-- the newest goes on from what was found before
newest_of_three : (x y z : Filled) (xy yz : Bool) → nat_lt x.delta.version y.delta.version ≡ xy → nat_lt y.delta.version z.delta.version ≡ yz → newer_slot (Some (cond xy y x)) z ≡ newer_slot (Some x) (cond yz z y)
newest_of_three x y z true true p q =
    let r : nat_lt x.delta.version z.delta.version ≡ true = grind (arith, nat_tests) in
    rw (q, r) refl
newest_of_three x y z true false p q = rw (q, p) refl
newest_of_three x y z false true p q = refl
newest_of_three x y z false false p q =
    let r : nat_lt x.delta.version z.delta.version ≡ false = grind (arith, nat_tests) in
    rw (r, p) refl

in_turn : (a m : Option Filled) (y : Filled) → newest_of_two (newer_slot a y) m ≡ newest_of_two a (newest_of_two (Some y) m)
in_turn a None y = refl
in_turn None (Some z) y = refl
in_turn (Some x) (Some z) y = newest_of_three x y z (nat_lt x.delta.version y.delta.version) (nat_lt y.delta.version z.delta.version) refl refl

fold_newer : (a : Option Filled) (ys : List Filled) → fold newer_slot a ys ≡ newest_of_two a (fold newer_slot None ys)
fold_newer a [] = refl
fold_newer a (y ∷ ys) =
    fold_newer (newer_slot a y) ys ∙ in_turn a (fold newer_slot None ys) y ∙ ap (newest_of_two a) (sym (fold_newer (Some y) ys))

-- the newest of two stripes' slots is the newer of each one's newest
pub newest_append : (b : ℕ) (xs ys : List Filled) → newest_in b (xs ++ ys) ≡ newest_of_two (newest_in b xs) (newest_in b ys)
newest_append b xs ys =
    ap (fold newer_slot None) (filter-append (λ x. nat_eq (block_in x) b) xs ys)
    ∙ fold-append newer_slot None (filter (λ x. nat_eq (block_in x) b) xs) (filter (λ x. nat_eq (block_in x) b) ys)
    ∙ fold_newer (newest_in b xs) (filter (λ x. nat_eq (block_in x) b) ys)

-- with one slot more
newest_with : (a : Option Filled) (x : Filled) (c : Bool) → newest_of_two a (fold newer_slot None (cond c (x ∷ []) [])) ≡ cond c (newer_slot a x) a
newest_with a x true = refl
newest_with a x false = refl

newest_more : (b : ℕ) (xs : List Filled) (x : Filled) → newest_in b (xs ++ x ∷ []) ≡ cond (nat_eq (block_in x) b) (newer_slot (newest_in b xs) x) (newest_in b xs)
newest_more b xs x = newest_append b xs (x ∷ []) ∙ newest_with (newest_in b xs) x (nat_eq (block_in x) b)

-- the slot of a delta
slot_with : (o : Option Filled) (d : Delta) → option_map (λ x. x.delta) o ≡ Some d → (x : Filled) × (o ≡ Some x) × (d ≡ x.delta)
slot_with None d e = cc
slot_with (Some x) d e = (x, refl, (cc))

no_slot_with : (o : Option Filled) → option_map (λ x. x.delta) o ≡ None → o ≡ None
no_slot_with None e = refl
no_slot_with (Some x) e = cc

-- a slot that is of the block, or is not
counted : (c : Bool) (xs : List Filled) (n : Option Filled) (x : Filled) (r : Option OpenSlot) (s : OpenSlot) → Found xs (newer_slot n x) (Some (newer_of r s)) → Found xs n r → Found xs (cond c (newer_slot n x) n) (cond c (Some (newer_of r s)) r)
counted true xs n x r s f g = f
counted false xs n x r s f g = g

module _ (b i : ℕ) (xs : List Filled) (r after : Option OpenSlot) (so_far : Found xs (newest_in b (take i xs)) r) where
  abbrev newest : Option Filled
  newest = newest_in b (take i xs)

  -- one filled slot more
  pub found_filled : (d : Delta) (of_block : Bool) → get_or (deltas_of xs) i None ≡ Some d → nat_eq (block_number d.file d.block) b ≡ of_block → after ≡ cond of_block (Some (newer_of r (record { slot = i; delta = d }))) r → Found xs (newest_in b (take (i + 1) xs)) after
  found_filled d of_block e t a =
      let p = slot_with (slot_at xs i) d (sym (told_at xs _ i) ∙ e) in
      let x : Filled = p.0 in
      let s : OpenSlot = record { slot = i; delta = d } in
      let tested = ap (λ (d : Delta). nat_eq (block_number d.file d.block) b) (sym p.2) ∙ t in
      let more = ap (newest_in b) (filled_to xs i x p.1) ∙ newest_more b (take i xs) x ∙ ap (λ c. cond c (newer_slot newest x) newest) tested in
      rw (more, a) (counted of_block xs newest x r s (newer_found xs newest x r s so_far p.2 p.1) so_far)

  -- an empty slot more
  pub found_empty : get_or (deltas_of xs) i None ≡ None → after ≡ r → Found xs (newest_in b (take (i + 1) xs)) after
  found_empty e a =
      let n = no_slot_with (slot_at xs i) (sym (told_at xs _ i) ∙ e) in
      rw (empty_to xs i n, a) so_far
