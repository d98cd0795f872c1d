use Rattle.std.proofs.Common.{◌≡◌, ℕ, ◌%◌, ◌<◌, ◌≤◌, List, length, get_or, drop, Some, None, Option, sym, ap, ◌∙◌, arith, Bor, MatchOption}
use Rattle.std.specs.Option.{option_map}
use Rattle.fragment.specs.Slots.{Filled, slot_bytes}
use Rattle.stripe.specs.Contents.{slot_at}
use Rattle.stripe.specs.Buffers.{no_slot, bytes_at}
use Rattle.stripe.specs.Means.{slots_in}
use Rattle.stripe.proofs.Filling.{length_slots, slot_there, slot_past, bytes_formed}
use Rattle.stripe.proofs.buffer.StripeBuffer.block.Goals as goal

abbrev bytes_of : Option Filled → Option (List ℕ)
bytes_of s = option_map (λ x. x.bytes) s

-- the block in the bytes w of a filled slot
blocked : (r : Option (Bor (List ℕ))) (j : ℕ) (w : List ℕ) (xs : List Filled) (m : ℕ) → j < 3 → m < length xs → w ≡ slot_bytes (Some (get_or xs m no_slot)) → MatchOption r (3 ≤ j) (λ b. (j < 3) × (b.now ≡ drop 32 w)) → option_map (λ x. x.now) r ≡ bytes_of (slot_at xs m)
blocked None j w xs m h k e v = absurd (omega arith)
blocked (Some b) j w xs m h k e v = ap Some (v.1 ∙ ap (drop 32) e) ∙ ap bytes_of (sym (slot_there xs m no_slot k))

there : (r : Option (Bor (List ℕ))) (j : ℕ) (w : List ℕ) (xs : List Filled) (m : ℕ) → j < 3 → m < length xs → MatchOption r (3 ≤ j) (λ b. (j < 3) × (b.now ≡ drop 32 w)) → MatchOption r (length xs ≤ m) (λ _. m < length xs)
there None j w xs m h k v = absurd (omega arith)
there (Some b) j w xs m h k v = k

pub returns-then-slot-self : goal.returns-then-slot-self
returns-then-slot-self c =
    let l = length_slots c.args.self.now in
    record { bytes = sym (ap bytes_of (slot_past (slots_in c.args.self.now) c.args.slot (omega arith))); known = omega arith }

pub returns : goal.returns
returns c =
    let b = c.args.self.now in
    let xs = slots_in b in
    let m = c.args.slot in
    let h : m % 3 < 3 = omega arith in
    let l = length_slots c.args.self.now in
    let k : m < length xs = omega arith in
    record {
      bytes =
          blocked c.block_in.result (m % 3) (bytes_at b.slots.fragments m) xs m h k
          (bytes_formed b.slots.fragments b.filled m b.formed b.fair (omega arith) (omega arith)) c.block_in.ensures;
      known = there c.block_in.result (m % 3) (bytes_at b.slots.fragments m) xs m h k c.block_in.ensures;
    }
