-- What is picked of an open stripe, and of a fragment that reads back.
use Rattle.std.proofs.Common.{◌≡◌, ℕ, zero, suc, ◌<◌, Bool, true, false, cond, List, [], ◌∷◌, map, length, get_or, take, drop, if◌then◌else◌, nat_lt, Some, None, Ok, Err, Option, Result, sym, refl, ap, ◌∙◌, arith, lt-ltb, inl, inr}
use native.Mathlib.Decide.{dec_lt}
use Rattle.std.specs.List.{range_with_len}
use Rattle.std.proofs.lemmas.List.FromFn.{length-map-range_with_len, get_or-map-range_with_len}
use Rattle.geometry.specs.Sizes.{head_length}
use Rattle.fragment.specs.declared.cause.Cause.{Cause}
use Rattle.fragment.specs.declared.layout.Layout.{Layout}
use Rattle.fragment.specs.Slots.{Filled, slot_bytes, read_slot}
use Rattle.fragment.specs.Heads.{read_head}
use Rattle.fragment.specs.Fragments.{slot_in, all_read, slots_under}
use Rattle.fragment.proofs.Slots.{slot_cases}
use Rattle.fragment.proofs.Fragments.{first_rest}
use Rattle.stripe.specs.Contents.{open_bytes, open_fragments}
use Rattle.stripe.proofs.Filling.{slot_past, bytes_at_lem}
use Rattle.open_stripe.specs.Picks.{OpenBlocks, SealedBlocks}

here : {A : Type 0} {x y : A} (b : Bool) → b ≡ true → x ≡ y → cond b (Some x) None ≡ Some y
here true e p = ap Some p
here false e p = cc

many : (xs : List Filled) → length (open_fragments xs) ≡ 7
unfolding open_fragments
many xs = length-map-range_with_len (open_bytes xs) 0 7

pub open_blocks : OpenBlocks
open_blocks xs m x fragment fair few at =
    elim (dec_lt m (length xs)) [
      | yes h ↦ (let n = many xs in
          here _ (lt-ltb _ _ (omega arith)) (ap (drop 32) (bytes_at_lem xs m fair (omega arith) ∙ ap slot_bytes at)))
      | no h ↦ (let n = slot_past xs m (omega arith) in cc)
    ]

-- a slot of those that are all read
read_at : (rs : List (Result (Option Filled) Cause)) (xs : List (Option Filled)) (j : ℕ) (x : Filled) → all_read rs ≡ Ok xs → get_or xs j None ≡ Some x → (j < length rs) × (get_or rs j (Ok None) ≡ Ok (Some x))
read_at [] xs j x e h = let n : [] ≡ xs = cc in let p = ap (λ t. get_or t j None) n ∙ h in cc
read_at (r ∷ rs) xs zero x e h =
    let p = first_rest r (all_read rs) rs xs refl e in
    (omega arith, p.2 ∙ ap Ok (ap (λ t. get_or t 0 None) (sym p.4) ∙ h))
read_at (r ∷ rs) xs (suc j) x e h =
    let p = first_rest r (all_read rs) rs xs refl e in
    let q = read_at rs p.1 j x p.3 (ap (λ t. get_or t (suc j) None) (sym p.4) ∙ h) in
    (omega arith, q.1)

-- the bytes of a slot that is read
bytes_read : (l : Layout) (w : List ℕ) (x : Filled) → read_slot l w ≡ Ok (Some x) → drop 32 w ≡ x.bytes
bytes_read l w x e =
    elim (slot_cases l w (Some x) e) [
      | inl z ↦ (cc z.1)
      | inr f ↦ (let same = f.is in cc)
    ]

pub sealed_blocks : SealedBlocks
sealed_blocks n k i j stripe fragment xs x e h = under (read_head n k i (take head_length fragment)) e
  where
    under : (r : Result Layout Cause) → slots_under fragment r ≡ Ok xs → (if nat_lt j 3 then Some (drop 32 (slot_in fragment j)) else None) ≡ Some x.bytes
    under (Err c) e = cc
    under (Ok l) e =
        let q = read_at (map (λ m. read_slot l (slot_in fragment m)) (range_with_len 0 3)) xs j x e h in
        let b : j < 3 = q.0 in
        let same = get_or-map-range_with_len (λ m. read_slot l (slot_in fragment m)) 0 3 j j (Ok None) b (omega arith) in
        here _ (lt-ltb j 3 b) (bytes_read l (slot_in fragment j) x (sym same ∙ q.1))
