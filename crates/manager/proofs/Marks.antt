-- Live slots, counted from their marks.
use Rattle.std.proofs.Common.{◌≡◌, ℕ, ◌+◌, ◌*◌, ◌/◌, ◌%◌, ◌<◌, false, if◌then◌else◌, not, List, [], ◌∷◌, ◌++◌, filter, length, get_or, nat_eq, refl, sym, ap, ◌∙◌, arith}
use Rattle.std.specs.List.{range_with_len, flat_map}
use Rattle.std.proofs.lemmas.Bool.Decides.{nat_tests}
use Rattle.std.proofs.lemmas.List.{length-append, map-id}
use Rattle.std.proofs.lemmas.List.Concat.{flat_map-cons}
use Rattle.std.proofs.lemmas.Grind.{flat_map-append}
use Rattle.std.proofs.lemmas.List.FromFn.{get_or-map-range_with_len, map-range_with_len_more}
use Rattle.rack.specs.Entries.{Entry}
use Rattle.rack.specs.Gathering.{is_live, live_slots}
use Rattle.manager.specs.Live.{live_marks, is_live_at}

pub mark_at : (es : List Entry) (k i j : ℕ) → i < 7 → j < 3 → get_or (live_marks es k) (3 * i + j) false ≡ is_live es k i j
unfolding live_marks
mark_at es k i j li lj =
    let q : (3 * i + j) / 3 ≡ i = omega arith in
    let r : (3 * i + j) % 3 ≡ j = omega arith in
    get_or-map-range_with_len (is_live_at es k) 0 21 (3 * i + j) (3 * i + j) false (omega arith) (omega arith)
    ∙ ap (λ t. is_live es k t ((3 * i + j) % 3)) q
    ∙ ap (is_live es k i) r

pub three_slots : (es : List Entry) (k i : ℕ)
    → length (live_slots es k i) ≡ (if is_live es k i 0 then 1 else 0) + (if is_live es k i 1 then 1 else 0) + (if is_live es k i 2 then 1 else 0)
three_slots es k i = grind (arith, nat_tests)

-- fragments with none add none
pub with_none : (f : ℕ → List ℕ) (is : List ℕ) → flat_map f (filter (λ i. not (nat_eq (length (f i)) 0)) is) ≡ flat_map f is
with_none f [] = refl
with_none f (i ∷ is) =
    let ih = with_none f is in
    let here = flat_map-cons f i is in
    let there = flat_map-cons f i (filter (λ q. not (nat_eq (length (f q)) 0)) is) in
    let none = nothing (f i) in
    grind (arith, nat_tests)
  where
    nothing : (xs : List ℕ) → length xs ≡ 0 → xs ≡ []
    nothing [] h = refl
    nothing (x ∷ xs) h = absurd (omega arith)

pub one_more : (f : ℕ → List ℕ) (i : ℕ) → length (flat_map f (range_with_len 0 (i + 1))) ≡ length (flat_map f (range_with_len 0 i)) + length (f i)
one_more f i =
    let more : range_with_len 0 (i + 1) ≡ range_with_len 0 i ++ i ∷ [] =
    sym (map-id _) ∙ map-range_with_len_more (λ k. k) 0 i i (omega arith) ∙ ap (λ r. r ++ i ∷ []) (map-id _) in
    let apart = flat_map-append f (range_with_len 0 i) (i ∷ []) in
    let last = flat_map-cons f i [] in
    let sum = length-append (flat_map f (range_with_len 0 i)) (flat_map f (i ∷ [])) in
    let none = length-append (f i) [] in
    ap (λ r. length (flat_map f r)) more ∙ ap length apart ∙ sum ∙ ap (λ r. length (flat_map f (range_with_len 0 i)) + length r) last
    ∙ ap (λ n. length (flat_map f (range_with_len 0 i)) + n) none ∙ omega arith
