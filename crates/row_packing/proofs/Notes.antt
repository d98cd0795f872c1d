-- Readings noted one after another.
use Rattle.std.proofs.Common.{◌≡◌, ℕ, ◌+◌, ◌-◌, ◌<◌, Bool, true, false, cond, List, [], ◌∷◌, ◌++◌, get_or, take, drop, Some, None, Ok, Err, Option, Result, sym, refl, ap, ◌∙◌, arith}
use Rattle.std.specs.List.{range_with_len, flat_map}
use Rattle.std.specs.Ordering.{eq_by_cmp}
use Rattle.geometry.specs.Sizes.{head_length, delta_length}
use Rattle.fragment.specs.declared.cause.Cause.{Cause}
use Rattle.fragment.specs.declared.cause.Cause.TheVariants.{BadSlot}
use Rattle.fragment.specs.declared.delta.Delta.{Delta}
use Rattle.fragment.specs.declared.delta.Kind.{Kind}
use Rattle.fragment.specs.declared.layout.Layout.{Layout}
use Rattle.fragment.specs.Slots.{Filled, read_slot, filled_in, kind_in, is_sound, delta_in, delta_of}
use Rattle.fragment.specs.Heads.{read_head}
use Rattle.fragment.specs.Fragments.{slot_in, all_read, slots_under, read_fragment, deltas_answer}
use Rattle.workshop.specs.declared.newest.Newest.{Newest}
use Rattle.workshop.specs.declared.newest.Noted.{Noted}
use Rattle.workshop.specs.declared.tyre.TyreId.{TyreId}
use Rattle.workshop.specs.Tyres.{by_tyre}
use Rattle.workshop.specs.Readings.{noted_for, newer}
use Rattle.row_packing.specs.Readings.{Entry, entry_in, slot_entries, entries_in, newest_of, Appended}
use Rattle.row_packing.proofs.Counts.{left_more}

-- ---- readings after readings

newest_append : (a : Option Noted) (xs ys : List Entry) (q : TyreId) → newest_of a (xs ++ ys) q ≡ newest_of (newest_of a xs q) ys q
newest_append a [] ys q = refl
newest_append a (x ∷ xs) ys q = newest_append (cond (eq_by_cmp by_tyre q x.0) (Some (newer a x.1)) a) xs ys q

-- a loop that notes f i, then f (i + 1) and so on
pub notes_more : (f : ℕ → List Entry) (i n : ℕ) (a b : Newest) → i < n → Appended a b (f i) → (q : TyreId) → newest_of (noted_for b q) (flat_map f (range_with_len (i + 1) (n - (i + 1)))) q ≡ newest_of (noted_for a q) (flat_map f (range_with_len i (n - i))) q
notes_more f i n a b h e q =
    let rest : List Entry = flat_map f (range_with_len (i + 1) (n - (i + 1))) in
    ap (λ t. newest_of t rest q) (e q)
    ∙ sym (newest_append (noted_for a q) (f i) rest q)
    ∙ ap (λ ss. newest_of (noted_for a q) (flat_map f ss) q) (sym (left_more i n h))

-- ---- the slots of a fragment

filled_entry : (l : Layout) (w : List ℕ) (o : Option Kind) (s : Option Filled) → filled_in l w o ≡ Ok s → slot_entries s ≡ entry_in (delta_of s) (drop delta_length w)
filled_entry l w None s e = cc
filled_entry l w (Some k) s e = by (is_sound l k w) e
  where
    by : (t : Bool) → cond t (Ok (Some (record { delta = delta_in l k w; bytes = drop delta_length w }))) (Err BadSlot) ≡ Ok s → slot_entries s ≡ entry_in (delta_of s) (drop delta_length w)
    by true h = let same : Some (record { delta = delta_in l k w; bytes = drop delta_length w }) ≡ s = cc in rw (← same) refl
    by false h = cc

slot_entry : (l : Layout) (w : List ℕ) (s : Option Filled) → read_slot l w ≡ Ok s → slot_entries s ≡ entry_in (delta_of s) (drop delta_length w)
slot_entry l w s e = let filled = filled_entry l w (kind_in l (get_or w 0 0)) s in grind arith

module _ (bs : List ℕ) (ds : List (Option Delta)) where
  -- the reading in slot j of these bytes, with these deltas
  abbrev pub entry : ℕ → List Entry
  entry j = entry_in (get_or ds j None) (drop delta_length (slot_in bs j))

  by_slots : (l : Layout) (r0 r1 r2 : Result (Option Filled) Cause) → read_slot l (slot_in bs 0) ≡ r0 → read_slot l (slot_in bs 1) ≡ r1 → read_slot l (slot_in bs 2) ≡ r2 → Ok ds ≡ deltas_answer (all_read (r0 ∷ r1 ∷ r2 ∷ [])) → entries_in (all_read (r0 ∷ r1 ∷ r2 ∷ [])) ≡ entry 0 ++ (entry 1 ++ (entry 2 ++ []))
  by_slots l (Ok a) (Ok b) (Ok c) p q r e =
      let same : delta_of a ∷ delta_of b ∷ delta_of c ∷ [] ≡ ds = cc in
      rw (← same, slot_entry l (slot_in bs 0) a p, slot_entry l (slot_in bs 1) b q, slot_entry l (slot_in bs 2) c r)
  by_slots l (Ok a) (Ok b) (Err x) p q r e = cc
  by_slots l (Ok a) (Err x) r2 p q r e = cc
  by_slots l (Err x) r1 r2 p q r e = cc

  by_head : (h : Result Layout Cause) → Ok ds ≡ deltas_answer (slots_under bs h) → entries_in (slots_under bs h) ≡ entry 0 ++ (entry 1 ++ (entry 2 ++ []))
  by_head (Ok l) e = by_slots l (read_slot l (slot_in bs 0)) (read_slot l (slot_in bs 1)) (read_slot l (slot_in bs 2)) refl refl refl e
  by_head (Err x) e = cc

  -- the readings of a fragment, slot by slot, from the deltas that reading it answers
  pub fragment_entries : (n k i : ℕ) → Ok ds ≡ deltas_answer (read_fragment n k i bs) → entries_in (read_fragment n k i bs) ≡ flat_map entry (range_with_len 0 3)
  fragment_entries n k i e = by_head (read_head n k i (take head_length bs)) e
