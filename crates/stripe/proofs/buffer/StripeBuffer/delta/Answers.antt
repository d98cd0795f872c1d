use Rattle.std.proofs.Common.{◌≡◌, Some, None, Ok, Option, sym, refl, ap, ◌∙◌, arith}
use Rattle.std.specs.Option.{option_map}
use Rattle.std.specs.Result.{result_unwrap_or}
use Rattle.fragment.specs.Slots.{Filled, delta_answer}
use Rattle.stripe.specs.Contents.{slot_at}
use Rattle.stripe.specs.Means.{slots_in}
use Rattle.stripe.proofs.Filling.{length_slots, read_formed, slot_past}
use Rattle.stripe.proofs.buffer.StripeBuffer.delta.Goals as goal

-- what code makes of a slot that reads
made_of : (s : Option Filled) → result_unwrap_or (delta_answer (Ok s)) None ≡ option_map (λ x. x.delta) s
made_of None = refl
made_of (Some x) = refl

pub returns-then-self-slot : goal.returns-then-self-slot
returns-then-self-slot c =
    let b = c.args.self.now in
    let l = length_slots b in
    sym (ap (option_map (λ x. x.delta)) (slot_past (slots_in b) c.args.slot (omega arith)))

pub returns : goal.returns
returns c =
    let b = c.args.self.now in
    c.unwrap_or.ensures ∙ ap (λ r. result_unwrap_or r None) c.read_delta.ensures
    ∙ ap (λ r. result_unwrap_or (delta_answer r) None) (read_formed b.slots.fragments b.filled c.args.slot b.formed b.fair (omega arith))
    ∙ made_of (slot_at (slots_in b) c.args.slot)
