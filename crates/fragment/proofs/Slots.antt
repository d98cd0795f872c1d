-- A slot written is read as it was, and what reads as a slot of layout 2 was written so.
use Rattle.std.proofs.Common.{◌≡◌, ℕ, Bool, true, false, cond, ◌&&◌, eqb, ltb, ◌⊎◌, List, ◌∷◌, ◌++◌, length, get_or, drop, replicate, Some, None, Ok, Err, Option, sym, refl, ap, ◌∙◌, inl, inr, arith, lt-ltb, eqb-true}
use mathlib.Core.Path.{Path}
use Rattle.std.proofs.lemmas.Bool.{and_parts, and_from}
use Rattle.std.proofs.lemmas.Bool.Decides.{nat_tests}
use Rattle.std.proofs.lemmas.List.{length-take-le, length-drop}
use Rattle.geometry.specs.Sizes.{delta_length, slot_length}
use Rattle.fragment.specs.declared.cause.Cause.TheVariants.{BadSlot}
use Rattle.fragment.specs.declared.layout.Layout.{Layout}
use Rattle.fragment.specs.declared.layout.Layout.TheVariants.{Two}
use Rattle.fragment.specs.declared.delta.Kind.{Kind}
use Rattle.fragment.specs.declared.delta.Kind.TheVariants.{Write, Trim}
use Rattle.fragment.specs.declared.delta.Delta.{Delta}
use Rattle.fragment.specs.Numbers.{kind_number}
use Rattle.geometry.specs.Bytes.{word4, part, zeros}
use Rattle.fragment.specs.Slots.{Filled, Fair, FairSlot, delta_bytes, slot_bytes, kind_in, delta_in, rest_is_zero, content_fits, is_sound, filled_in, read_slot}
use Rattle.fragment.specs.Laws.{Bytes}
use Rattle.fragment.proofs.Words.{word2_le2, word4_le4, le2_word2, le4_word4}
use Rattle.fragment.proofs.Parts.{passed, zeros_are, listed, cut}

pub length-slot_bytes : (s : Option Filled) → FairSlot s → length (slot_bytes s) ≡ slot_length
length-slot_bytes None fair = refl
length-slot_bytes (Some x) fair = let l = fair.long in omega arith

-- a filled slot, by its fields
module _ (f b v m : ℕ) (bs : List ℕ) where
  abbrev slot : Kind → Filled
  slot k = record { delta = record { kind = k; file = f; block = b; version = v; moves = m }; bytes = bs }

  reads_kind : (k : Kind) → Fair (slot k) → filled_in Two (slot_bytes (Some (slot k))) (Some k) ≡ Ok (Some (slot k))
  reads_kind k fair =
      let sound = and_from (ltb 0 v) (content_fits k bs) (lt-ltb 0 v fair.some) fair.blank in
      let same : Path Delta (delta_in Two k (slot_bytes (Some (slot k)))) (slot k).delta =
      λ t. record { kind = k; file = word2_le2 f fair.file t; block = word2_le2 b fair.block t; version = word4_le4 v fair.version t; moves = word2_le2 m fair.moves t } in
      ap (λ (d : Delta). cond (ltb 0 d.version && content_fits k bs) (Ok (Some (record { delta = d; bytes = bs }))) (Err BadSlot)) same
      ∙ ap (λ t. cond t (Ok (Some (slot k))) (Err BadSlot)) sound

  reads_filled : (k : Kind) → Fair (slot k) → read_slot Two (slot_bytes (Some (slot k))) ≡ Ok (Some (slot k))
  reads_filled Write fair = reads_kind Write fair
  reads_filled Trim fair = reads_kind Trim fair

-- a slot that was written reads as it was
pub reads_slot : (s : Option Filled) → FairSlot s → read_slot Two (slot_bytes s) ≡ Ok s
reads_slot None fair = refl
reads_slot (Some x) fair = reads_filled x.delta.file x.delta.block x.delta.version x.delta.moves x.bytes x.delta.kind fair

-- what it is that these bytes are a filled slot
pub record IsFilled (l : Layout) (w : List ℕ) (s : Option Filled) : Type 0 where
  pub kind : Kind
  pub named : kind_in l (get_or w 0 0) ≡ Some kind
  pub sound : is_sound l kind w ≡ true
  pub is : s ≡ Some (record { delta = delta_in l kind w; bytes = drop delta_length w })

filled_from : (l : Layout) (w : List ℕ) (s : Option Filled) (o : Option Kind) → kind_in l (get_or w 0 0) ≡ o → filled_in l w o ≡ Ok s → IsFilled l w s
filled_from l w s None n e = cc
filled_from l w s (Some k) n e =
    let p = passed (is_sound l k w) (Ok (Some (record { delta = delta_in l k w; bytes = drop delta_length w }))) BadSlot s e in
    record { kind = k; named = n; sound = p.0; is = (cc p.1) }

-- a slot that reads is empty or filled
pub slot_cases : (l : Layout) (w : List ℕ) (s : Option Filled) → read_slot l w ≡ Ok s → ((zeros w ≡ true) × (s ≡ None)) ⊎ IsFilled l w s
slot_cases l w s e = go (zeros w) refl e
  where
    go : (z : Bool) → zeros w ≡ z → cond z (Ok None) (filled_in l w (kind_in l (get_or w 0 0))) ≡ Ok s → ((zeros w ≡ true) × (s ≡ None)) ⊎ IsFilled l w s
    go true z e = inl (z, (cc))
    go false z e = inr (filled_from l w s (kind_in l (get_or w 0 0)) refl e)

named_by : (b : ℕ) (k : Kind) → kind_in Two b ≡ Some k → b ≡ kind_number k
named_by b Write e = grind (arith, nat_tests)
named_by b Trim e = grind (arith, nat_tests)

-- a filled slot of layout 2 is what is written for it
filled_exact : (w : List ℕ) (k : Kind) → Bytes slot_length w → kind_in Two (get_or w 0 0) ≡ Some k → is_sound Two k w ≡ true → w ≡ delta_bytes (delta_in Two k w) ++ drop delta_length w
filled_exact w k (long, bytes) named sound =
    let front = (and_parts (rest_is_zero Two w && ltb 0 (word4 w 8)) (content_fits k (drop delta_length w)) sound).0 in
    let rest = (and_parts (rest_is_zero Two w) (ltb 0 (word4 w 8)) front).0 in
    let zero = and_parts (eqb (get_or w 1 0) 0) (zeros (part 12 20 w)) rest in
    let blank : part 12 20 w ≡ replicate 20 0 = zeros_are 20 (part 12 20 w) (length-take-le 20 (drop 12 w) (simp length-drop (omega arith))) zero.1 in
    let after : drop 12 w ≡ replicate 20 0 ++ drop delta_length w = cut 12 20 w ∙ ap (λ t. t ++ drop delta_length w) blank in
    listed 12 w (omega arith)
    ∙ (λ t. named_by (get_or w 0 0) k named t
    ∷ eqb-true (get_or w 1 0) 0 zero.0 t
    ∷ le2_word2 w bytes 2 (omega arith) t
    ++ (le2_word2 w bytes 4 (omega arith) t ++ (le2_word2 w bytes 6 (omega arith) t ++ (le4_word4 w bytes 8 (omega arith) t ++ after t))))

-- a slot that reads in layout 2 is what is written for it
pub slot_exact : (w : List ℕ) (s : Option Filled) → Bytes slot_length w → read_slot Two w ≡ Ok s → w ≡ slot_bytes s
slot_exact w s (long, bytes) e =
    elim (slot_cases Two w s e) [
      | inl z ↦ zeros_are slot_length w long z.0 ∙ ap slot_bytes (sym z.1)
      | inr f ↦ filled_exact w f.kind (long, bytes) f.named f.sound ∙ ap slot_bytes (sym f.is)
    ]
