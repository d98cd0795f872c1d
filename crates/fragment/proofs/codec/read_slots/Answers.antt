use Rattle.std.proofs.Common.{◌≡◌, ℕ, zero, suc, ◌<◌, List, [], ◌∷◌, map, length, get_or, None, Ok, Err, Option, Result, sym, refl, ap, ◌∙◌, arith, length-set, get_or-set_other, get_or-set_same, below_more}
use Rattle.std.specs.List.{range_with_len}
use Rattle.std.proofs.lemmas.List.FromFn.{get_or-map-range_with_len}
use Rattle.std.proofs.lemmas.Result.{err_from_is_err_and}
use Rattle.fragment.specs.declared.cause.Cause.{Cause}
use Rattle.fragment.specs.declared.delta.Delta.{Delta}
use Rattle.fragment.specs.declared.layout.Layout.{Layout}
use Rattle.fragment.specs.Slots.{Filled, read_slot, delta_of, delta_answer}
use Rattle.fragment.specs.Fragments.{slot_in, and_then, all_read, deltas_answer}
use Rattle.fragment.proofs.codec.read_slots.Goals as goal

-- the answer of one slot, then that of the others
abbrev next : Result (Option Delta) Cause → Result (List (Option Delta)) Cause → Result (List (Option Delta)) Cause
next (Ok d) (Ok ds) = Ok (d ∷ ds)
next (Ok d) (Err c) = Err c
next (Err c) ds = Err c

next_is : (r : Result (Option Filled) Cause) (rs : List (Result (Option Filled) Cause)) → next (delta_answer r) (deltas_answer (all_read rs)) ≡ deltas_answer (all_read (r ∷ rs))
next_is (Ok s) rs = go (all_read rs)
  where
    go : (q : Result (List (Option Filled)) Cause) → next (Ok (delta_of s)) (deltas_answer q) ≡ deltas_answer (and_then s q)
    go (Ok ss) = refl
    go (Err c) = refl
next_is (Err c) rs = refl

-- slots that are all read
told : (rs : List (Result (Option Filled) Cause)) (ds : List (Option Delta)) → length ds ≡ length rs → ((j : ℕ) → j < length rs → Ok (get_or ds j None) ≡ delta_answer (get_or rs j (Ok None))) → Ok ds ≡ deltas_answer (all_read rs)
told [] [] long each = refl
told [] (d ∷ ds) long each = absurd (omega arith)
told (r ∷ rs) [] long each = absurd (omega arith)
told (r ∷ rs) (d ∷ ds) long each =
    (λ t. next (each 0 (omega arith) t) (told rs ds (omega arith) (λ j h. each (suc j) (omega arith)) t)) ∙ next_is r rs

-- slots of which the first i are read, and the next is refused
refused : (rs : List (Result (Option Filled) Cause)) (d : ℕ → Option Delta) (i : ℕ) (c : Cause) → i < length rs → ((j : ℕ) → j < i → Ok (d j) ≡ delta_answer (get_or rs j (Ok None))) → Err c ≡ delta_answer (get_or rs i (Ok None)) → Err c ≡ deltas_answer (all_read rs)
refused [] d i c h each e = absurd (omega arith)
refused (r ∷ rs) d zero c h each e = ap (λ x. next x (deltas_answer (all_read rs))) e ∙ next_is r rs
refused (r ∷ rs) d (suc i) c h each e =
    (λ t. next (each 0 (omega arith) t) (refused rs (λ j. d (suc j)) i c (omega arith) (λ j l. each (suc j) (omega arith)) e t)) ∙ next_is r rs

-- the slots of a fragment, and what is told of slot j
module _ (l : Layout) (bs : List ℕ) where
  abbrev slots : List (Result (Option Filled) Cause)
  slots = map (λ j. read_slot l (slot_in bs j)) (range_with_len 0 3)

  of_slot : (j : ℕ) {r : Result (Option Delta) Cause} → j < 3 → r ≡ delta_answer (read_slot l (slot_in bs j)) → r ≡ delta_answer (get_or slots j (Ok None))
  of_slot j h e =
      e ∙ ap delta_answer (sym (get_or-map-range_with_len (λ m. read_slot l (slot_in bs m)) 0 3 j j (Ok None) h (omega arith)))

-- a slot's answer, by its bytes
by_bytes : (l : Layout) {w v : List ℕ} {r : Result (Option Delta) Cause} → r ≡ delta_answer (read_slot l w) → w ≡ v → r ≡ delta_answer (read_slot l v)
by_bytes l e v = e ∙ ap (λ x. delta_answer (read_slot l x)) v

pub returns-in_err-delta : goal.returns-in_err-delta
returns-in_err-delta c =
    let e = err_from_is_err_and c.from_residual.result c.from_residual.ensures.1 in
    let l = c.args.layout in
    let bs = c.args.fragment.now in
    e.1 ∙ ap Err e.2
    ∙ refused (slots l bs) (λ j. get_or c.loop-slot.delta-items j None) c.loop-slot.slot _ (omega arith)
    (λ j h. of_slot l bs j (omega arith) (c.loop-slot.invariant.1 j h))
    (of_slot l bs c.loop-slot.slot (omega arith) (by_bytes l c.in_err-delta.ensures c.slot_in.ensures))

pub loop-slot-preserved : goal.loop-slot-preserved
loop-slot-preserved c = (
  length-set c.loop-slot.delta-items c.loop-slot.slot _ ∙ c.loop-slot.invariant.0,
  below_more _ _
      (λ k h. ap Ok (get_or-set_other c.loop-slot.delta-items c.loop-slot.slot k _ None (λ e. omega arith)) ∙ c.loop-slot.invariant.1 k h)
      (ap Ok (get_or-set_same c.loop-slot.delta-items c.loop-slot.slot _ None (omega arith))
      ∙ by_bytes c.args.layout c.in_ok-delta.ensures c.slot_in.ensures),
)

pub returns : goal.returns
returns c =
    told (slots c.args.layout c.args.fragment.now) c.loop-slot.delta-items c.loop-slot.invariant.0
    (λ j h. of_slot c.args.layout c.args.fragment.now j h (c.loop-slot.invariant.1 j (omega arith)))
