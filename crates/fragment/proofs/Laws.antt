-- The laws of every fragment.
use Rattle.std.proofs.Common.{◌≡◌, ℕ, ◌+◌, ◌<◌, ◌≤◌, ◌⊎◌, List, ◌++◌, length, get_or, take, drop, Some, None, sym, refl, ap, ◌∙◌, inl, inr, arith}
use Rattle.std.proofs.lemmas.List.{places, get_or-take}
use Rattle.std.proofs.lemmas.Bool.Decides.{nat_tests}
use Rattle.geometry.specs.Sizes.{head_length, slot_length, slot_place}
use Rattle.fragment.specs.declared.layout.Layout.TheVariants.{One}
use Rattle.fragment.specs.Heads.{layout_in, head_of}
use Rattle.fragment.specs.Slots.{Filled, slot_bytes, delta_in}
use Rattle.fragment.specs.Fragments.{slots_under}
use Rattle.fragment.specs.Laws.{ReadsBack, OneForm, OlderSlots, OtherLayouts, OnlyTheSlot}
use Rattle.fragment.proofs.Slots.{length-slot_bytes, slot_cases}
use Rattle.fragment.proofs.Fragments.{reads_fragment, fragment_exact}

pub reads_back : ReadsBack
reads_back n k i a b c h fa fb fc = (reads_fragment n k i a b c h fa fb fc, refl)

pub one_form : OneForm
one_form n k i xs ys slots bx by lx ly rx ry = fragment_exact n k i xs slots bx lx rx ∙ sym (fragment_exact n k i ys slots by ly ry)

pub older_slots : OlderSlots
older_slots w x e =
    elim (slot_cases One w (Some x) e) [
      | inl z ↦ (cc z.1)
      | inr f ↦ (let same : x ≡ record { delta = delta_in One f.kind w; bytes = drop 32 w } = cc f.is in
          (ap (λ (y : Filled). y.delta.version) same, ap (λ (y : Filled). y.delta.moves) same))
    ]

-- a byte that is no layout's number
neither : (b : ℕ) → (b ≡ 1 → ⊥) → (b ≡ 2 → ⊥) → layout_in b ≡ None
neither b p q = grind (arith, nat_tests)

pub other_layouts : OtherLayouts
other_layouts n k i bs p q =
    ap (λ l. slots_under bs (head_of n k i (take head_length bs) l)) (ap layout_in (get_or-take head_length bs 0 0 (omega arith)) ∙ neither (get_or bs 0 0) p q)

-- a byte outside the part that is written over
outside : (at size p : ℕ) (ys bs : List ℕ) → length ys ≡ size → at + size ≤ length bs → (p < at) ⊎ (at + size ≤ p) → get_or (take at bs ++ (ys ++ drop (at + size) bs)) p 0 ≡ get_or bs p 0
outside at size p ys bs e h away = grind (arith, places)

pub only_the_slot : OnlyTheSlot
only_the_slot j p x bs h long fair away = outside (slot_place j) slot_length p (slot_bytes (Some x)) bs (length-slot_bytes (Some x) fair) (omega arith) away
