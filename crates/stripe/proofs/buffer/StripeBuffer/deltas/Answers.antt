use Rattle.std.proofs.Common.{◌≡◌, ℕ, ◌+◌, ◌-◌, ◌<◌, List, ◌++◌, map, length, get_or, set, replicate, Some, None, Option, sym, ap, ◌∙◌, zero-add, arith}
use lib.Seq.{paste}
use Rattle.std.specs.Option.{option_map}
use Rattle.std.proofs.lemmas.List.Edits.{paste_more, paste_all}
use Rattle.std.proofs.lemmas.List.{length-map, get_or-map, drop-replicate}
use Rattle.fragment.specs.declared.delta.Delta.{Delta}
use Rattle.fragment.specs.Slots.{Filled}
use Rattle.stripe.specs.Contents.{deltas_of}
use Rattle.stripe.specs.Buffers.{no_slot}
use Rattle.stripe.specs.Means.{slots_in}
use Rattle.stripe.proofs.Filling.{length_slots, slot_there}
use Rattle.stripe.proofs.buffer.StripeBuffer.deltas.Goals as goal

abbrev none : List (Option Delta)
none = replicate 21 None

abbrev told : List Filled → List (Option Delta)
told xs = map (λ x. Some x.delta) xs

one_more : (xs : List Filled) (i : ℕ) (d : Option Delta) → i < length xs → i < 21 → d ≡ Some (get_or xs i no_slot).delta → set (paste none 0 (told xs) i) i d ≡ paste none 0 (told xs) (i + 1)
one_more xs i d h few e =
    ap (set (paste none 0 (told xs) i) i) (e ∙ sym (get_or-map (λ (x : Filled). Some x.delta) xs i no_slot None h))
    ∙ ap (λ t. set (paste none 0 (told xs) i) t (get_or (told xs) i None)) (sym (zero-add i))
    ∙ paste_more none 0 (told xs) i None (omega arith) (omega (arith, length-map xs (λ (x : Filled). Some x.delta)))

all_told : (xs : List Filled) (n : ℕ) → n ≡ length xs → paste none 0 (told xs) n ≡ deltas_of xs
all_told xs n e =
    paste_all none 0 (told xs) n (e ∙ sym (length-map xs (λ (x : Filled). Some x.delta)))
    ∙ ap (λ t. told xs ++ t) (drop-replicate (0 + n) 21 None ∙ ap (λ m. replicate (21 - m) None) (zero-add n ∙ e))

pub loop-slot-preserved : goal.loop-slot-preserved
loop-slot-preserved c =
    let xs = slots_in c.args.self.now in
    let i = c.loop-slot.slot in
    let l = length_slots c.args.self.now in
    ap (λ ds. set ds i c.delta.result) c.loop-slot.invariant
    ∙ one_more xs i c.delta.result (omega arith) (omega arith) (c.delta.ensures ∙ ap (option_map (λ x. x.delta)) (slot_there xs i no_slot (omega arith)))

pub returns : goal.returns
returns c =
    let l = length_slots c.args.self.now in
    c.loop-slot.invariant ∙ all_told (slots_in c.args.self.now) c.loop-slot.slot (omega arith)
