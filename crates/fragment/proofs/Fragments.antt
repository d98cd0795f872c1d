-- A fragment written is read as it was, and what reads as a fragment of layout 2 was written so.
use Rattle.std.proofs.Common.{◌≡◌, ℕ, zero, suc, ◌+◌, ◌*◌, ◌<◌, ◌≤◌, List, [], ◌∷◌, ◌++◌, map, length, get_or, take, drop, Some, None, Ok, Err, Option, Result, sym, refl, ap, ◌∙◌, arith}
use Rattle.std.proofs.ByRecursion.{All-take, All-drop}
use Rattle.std.proofs.lemmas.List.{length-append, length-take-le, length-drop, take_at, drop_at, drop-drop, drop_all, take-append-drop, get_or-take}
use Rattle.std.specs.List.{flat_map, AllByRecursion}
use Rattle.geometry.specs.Sizes.{head_length, slot_length, slots_in_fragment, slot_place, fragment_length}
use Rattle.fragment.specs.declared.cause.Cause.{Cause}
use Rattle.fragment.specs.declared.layout.Layout.{Layout}
use Rattle.fragment.specs.declared.layout.Layout.TheVariants.{Two}
use Rattle.geometry.specs.Bytes.{part}
use Rattle.fragment.specs.Slots.{Filled, FairSlot, slot_bytes, read_slot}
use Rattle.fragment.specs.Heads.{head_bytes, layout_in, read_head}
use Rattle.fragment.specs.Fragments.{fragment_bytes, slot_in, all_read, slots_under, read_fragment}
use Rattle.fragment.specs.Laws.{Bytes}
use Rattle.fragment.proofs.Parts.{cut}
use Rattle.fragment.proofs.Slots.{length-slot_bytes, reads_slot, slot_exact}
use Rattle.fragment.proofs.Heads.{reads_head, head_exact}

pub length_slots : (slots : List (Option Filled)) → AllByRecursion FairSlot slots → length (flat_map slot_bytes slots) ≡ length slots * slot_length
length_slots [] fair = refl
length_slots (s ∷ slots) fair =
    let a = length-slot_bytes s fair.0 in
    let b = length_slots slots fair.1 in
    length-append (slot_bytes s) (flat_map slot_bytes slots) ∙ omega arith

pub length-fragment_bytes : (n k i : ℕ) (slots : List (Option Filled)) → AllByRecursion FairSlot slots → length slots ≡ slots_in_fragment → length (fragment_bytes n k i slots) ≡ fragment_length
length-fragment_bytes n k i slots fair three = let l = length_slots slots fair in length-append (head_bytes n k i) (flat_map slot_bytes slots) ∙ omega arith

-- the slots of a fragment that was written

slot_of : (slots : List (Option Filled)) (j : ℕ) → AllByRecursion FairSlot slots → j < length slots → part (j * slot_length) slot_length (flat_map slot_bytes slots) ≡ slot_bytes (get_or slots j None)
slot_of [] j fair h = absurd (omega arith)
slot_of (s ∷ slots) zero fair h = take_at (slot_bytes s) (flat_map slot_bytes slots) slot_length (length-slot_bytes s fair.0)
slot_of (s ∷ slots) (suc j) fair h =
    let e : suc j * slot_length ≡ slot_length + j * slot_length = omega arith in
    ap (λ p. part p slot_length (slot_bytes s ++ flat_map slot_bytes slots)) e
    ∙ ap (take slot_length) (sym (drop-drop (j * slot_length) slot_length (slot_bytes s ++ flat_map slot_bytes slots)) ∙ ap (drop (j * slot_length)) (drop_at (slot_bytes s) (flat_map slot_bytes slots) slot_length (length-slot_bytes s fair.0)))
    ∙ slot_of slots j fair.1 (omega arith)

pub slot_in-fragment_bytes : (n k i j : ℕ) (slots : List (Option Filled)) → AllByRecursion FairSlot slots → j < length slots → slot_in (fragment_bytes n k i slots) j ≡ slot_bytes (get_or slots j None)
slot_in-fragment_bytes n k i j slots fair h =
    ap (take slot_length) (sym (drop-drop (j * slot_length) head_length (fragment_bytes n k i slots))) ∙ slot_of slots j fair h

-- a fragment that was written reads as it was
pub reads_fragment : (n k i : ℕ) (a b c : Option Filled) → i + 1 < n → FairSlot a → FairSlot b → FairSlot c → read_fragment n k i (fragment_bytes n k i (a ∷ b ∷ c ∷ [])) ≡ Ok (a ∷ b ∷ c ∷ [])
reads_fragment n k i a b c h fa fb fc =
    let slots : List (Option Filled) = a ∷ b ∷ c ∷ [] in
    let bs : List ℕ = fragment_bytes n k i slots in
    let reads : (j : ℕ) → j < 3 → FairSlot (get_or slots j None) → read_slot Two (slot_in bs j) ≡ Ok (get_or slots j None) =
    λ j l f. ap (read_slot Two) (slot_in-fragment_bytes n k i j slots (fa, (fb, (fc, tt))) l) ∙ reads_slot (get_or slots j None) f in
    ap (slots_under bs) (reads_head n k i h)
    ∙ (λ t. all_read (reads 0 (omega arith) fa t ∷ reads 1 (omega arith) fb t ∷ reads 2 (omega arith) fc t ∷ []))

-- slots that are all read were read one by one
pub first_rest : (r : Result (Option Filled) Cause) (q : Result (List (Option Filled)) Cause) (rs : List (Result (Option Filled) Cause)) (slots : List (Option Filled)) → all_read rs ≡ q → all_read (r ∷ rs) ≡ Ok slots → (s : Option Filled) × (ss : List (Option Filled)) × (r ≡ Ok s) × (all_read rs ≡ Ok ss) × (slots ≡ s ∷ ss)
first_rest (Ok s) (Ok ss) rs slots p e = (s, ss, refl, p, (cc))
first_rest (Ok s) (Err c) rs slots p e = cc
first_rest (Err c) q rs slots p e = cc

-- slots that read in layout 2 are what is written for them
slots_exact : (ws : List (List ℕ)) (slots : List (Option Filled)) → AllByRecursion (Bytes slot_length) ws → all_read (map (read_slot Two) ws) ≡ Ok slots → flat_map (λ w. w) ws ≡ flat_map slot_bytes slots
slots_exact [] slots bytes e = ap (flat_map slot_bytes) (let n : [] ≡ slots = cc in n)
slots_exact (w ∷ ws) slots bytes e =
    let p = first_rest (read_slot Two w) (all_read (map (read_slot Two) ws)) (map (read_slot Two) ws) slots refl e in
    (λ t. slot_exact w p.0 bytes.0 p.2 t ++ slots_exact ws p.1 bytes.1 p.3 t) ∙ ap (flat_map slot_bytes) (sym p.4)

bytes_part : (from size total : ℕ) (xs : List ℕ) → from + size ≤ total → Bytes total xs → Bytes size (part from size xs)
bytes_part from size total xs h (long, bytes) = (
  length-take-le size (drop from xs) (simp length-drop (omega arith)),
  All-take (λ b. b < 256) size (drop from xs) (All-drop (λ b. b < 256) from xs bytes),
)

-- a fragment that reads in layout 2 is what is written for its slots
pub fragment_exact : (n k i : ℕ) (xs : List ℕ) (slots : List (Option Filled)) → Bytes fragment_length xs → layout_in (get_or xs 0 0) ≡ Some Two → read_fragment n k i xs ≡ Ok slots → xs ≡ fragment_bytes n k i slots
fragment_exact n k i xs slots bytes two e = go (read_head n k i (take head_length xs)) refl e
  where
    parts : xs ≡ take head_length xs ++ (slot_in xs 0 ++ (slot_in xs 1 ++ (slot_in xs 2 ++ [])))
    parts =
        sym (take-append-drop head_length xs)
        ∙ ap (λ t. take head_length xs ++ t) (cut 32 160 xs)
        ∙ ap (λ t. take head_length xs ++ (slot_in xs 0 ++ t)) (cut 192 160 xs)
        ∙ ap (λ t. take head_length xs ++ (slot_in xs 0 ++ (slot_in xs 1 ++ t))) (cut 352 160 xs)
        ∙ ap (λ t. take head_length xs ++ (slot_in xs 0 ++ (slot_in xs 1 ++ (slot_in xs 2 ++ t)))) (drop_all 512 xs (let l = bytes.0 in omega arith))

    slot : (j : ℕ) → j < 3 → Bytes slot_length (slot_in xs j)
    slot j h = bytes_part (slot_place j) slot_length fragment_length xs (omega arith) bytes

    go : (r : Result Layout Cause) → read_head n k i (take head_length xs) ≡ r → slots_under xs r ≡ Ok slots → xs ≡ fragment_bytes n k i slots
    go (Ok l) p e =
        let head = head_exact n k i (take head_length xs) l (bytes_part 0 head_length fragment_length xs (omega arith) bytes) (ap layout_in (get_or-take head_length xs 0 0 (omega arith)) ∙ two) p in
        let read = slots_exact (slot_in xs 0 ∷ slot_in xs 1 ∷ slot_in xs 2 ∷ []) slots (slot 0 (omega arith), (slot 1 (omega arith), (slot 2 (omega arith), tt))) (ap (λ m. slots_under xs (Ok m)) (sym head.0) ∙ e) in
        parts ∙ (λ t. head.1 t ++ read t)
    go (Err c) p e = cc
