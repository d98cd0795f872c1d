use Rattle.std.proofs.Common.{◌≡◌, ℕ, ◌^◌, ◌<◌, ◌≤◌, true, List, length, sym, refl, arith, le-ltb, lt-ltb}
use Rattle.std.proofs.lemmas.Bool.{and_from, and_right}
use Rattle.fragment.specs.declared.delta.Kind.{Kind}
use Rattle.fragment.specs.declared.delta.Kind.TheVariants.{Write, Trim}
use Rattle.fragment.specs.declared.delta.Delta.{Delta}
use Rattle.fragment.specs.Slots.{Fair, filled_with, content_of, content_fits}
use Rattle.stripe.specs.Means.{slots_in}
use Rattle.geometry.specs.Sizes.{slot_count}
use Rattle.stripe.proofs.Filling.{length_slots, still_fair, slots_grown, still_formed}
use Rattle.stripe.proofs.buffer.StripeBuffer.fill.Goals as goal

content_long : (k : Kind) (bs : List ℕ) → length bs ≡ 128 → length (content_of k bs) ≡ 128
content_long Write bs e = e
content_long Trim bs e = refl

content_blank : (k : Kind) (bs : List ℕ) → content_fits k (content_of k bs) ≡ true
content_blank Write bs = refl
content_blank Trim bs = refl

new : (d : Delta) (block : List ℕ) → d.file < 2 ^ 16 → d.block < 2 ^ 16 → d.moves < 2 ^ 16 → d.version < 2 ^ 32 → 1 ≤ d.version → length block ≡ 128 → Fair (filled_with d block)
new d block f b m v s l =
    record {
      file = f;
      block = b;
      moves = m;
      version = v;
      some = s;
      long = content_long d.kind block l;
      blank = content_blank d.kind block;
    }

pub invariant_of-self : goal.invariant_of-self
invariant_of-self c =
    let b = c.args.self.now in
    let few : b.filled < 21 = omega arith in
    let x = new c.args.delta c.args.block.now (omega arith) (omega arith) (omega arith) (omega arith) (omega arith) (omega arith) in
    record {
      few = omega arith;
      formed = still_formed _ _ b.filled _ few b.formed b.fair x c.put.ensures;
      fair = still_fair _ _ b.filled _ few b.formed b.fair x c.put.ensures;
    }

pub returns-then-next-slots-clause-room : goal.returns-then-next-slots-clause-room
returns-then-next-slots-clause-room c =
    let long = length_slots c.args.self.now in
    sym (and_right _ _ (le-ltb (length (slots_in c.args.self.now)) (slot_count c.args.row.servers) (omega arith)))

pub returns-clause-room : goal.returns-clause-room
returns-clause-room c =
    let long = length_slots c.args.self.now in
    sym (and_from _ _ (lt-ltb 0 c.args.delta.version (omega arith)) (lt-ltb _ _ (omega arith)))

pub returns-clause-slots : goal.returns-clause-slots
returns-clause-slots c =
    let b = c.args.self.now in
    let few : b.filled < 21 = omega arith in
    let x = new c.args.delta c.args.block.now (omega arith) (omega arith) (omega arith) (omega arith) (omega arith) (omega arith) in
    slots_grown _ _ b.filled _ few b.formed b.fair x c.put.ensures
