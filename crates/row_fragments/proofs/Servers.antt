-- Sets of servers as lists.
use Rattle.std.proofs.Common.{Some, None, Option, ◌≡◌, ℕ, zero, suc, ◌+◌, ◌<◌, ◌≤◌, Bool, true, false, cond, ltb, List, [], ◌∷◌, ◌++◌, length, get_or, drop, refl, ap, ◌∙◌, arith}
use Rattle.std.specs.Prelude.{if◌then◌else◌, ◌&&◌, ◌||◌, filter, count_by, slice_index_or, nat_eq}
use Rattle.std.specs.List.{range_with_len}
use Rattle.std.proofs.lemmas.List.{drop_more, drop_all, get_or_past}
use Rattle.std.proofs.lemmas.List.Sums.{length-filter}
use Rattle.std.proofs.lemmas.Bool.Decides.{nat_tests}
use Rattle.ordered.specs.Maps.{rises_from, Rises}
use Rattle.ordered.proofs.Maps.{rises_from_lower}
use Rattle.rack.proofs.Orders.{same_members, rises-in_order, among-append, among-in_order}
use Rattle.rack.specs.Lists.{is_among, in_order}
use Rattle.rack.specs.Worlds.{is_out, in_use}
use Rattle.row_fragments.specs.Servers.{numbered, one_in}

below_none : (bs : List Bool) (i s : ℕ) → s < i → is_among (numbered i bs) s ≡ false
below_none [] i s h = refl
below_none (b ∷ bs) i s h = let ih = below_none bs (i + 1) s in grind (arith, nat_tests)

among_from : (bs : List Bool) (i s : ℕ) → is_among (numbered i bs) (i + s) ≡ get_or bs s false
among_from [] i s = refl
among_from (b ∷ bs) i zero = let n = below_none bs (i + 1) i in grind (arith, nat_tests)
among_from (b ∷ bs) i (suc s) = let ih = among_from bs (i + 1) s in grind (arith, nat_tests)

pub among_numbered : (bs : List Bool) (s : ℕ) → is_among (numbered 0 bs) s ≡ get_or bs s false
among_numbered bs s = let a = among_from bs 0 s in grind arith

within : (bs : List Bool) (s : ℕ) → get_or bs s false ≡ true → s < length bs
within [] s h = grind (arith, nat_tests)
within (b ∷ bs) zero h = omega arith
within (b ∷ bs) (suc s) h = let ih = within bs s h in omega arith

pub among_within : (bs : List Bool) (s : ℕ) → is_among (numbered 0 bs) s ≡ true → s < length bs
among_within bs s h = within bs s (rw (among_numbered bs s) at h)

rises-numbered : (bs : List Bool) (i : ℕ) → rises_from (λ k. k) i (numbered i bs) ≡ true
rises-numbered [] i = refl
rises-numbered (b ∷ bs) i =
    let ih = rises-numbered bs (i + 1) in
    let l = rises_from_lower (λ k. k) (numbered (i + 1) bs) i (i + 1) in
    grind (arith, nat_tests)

-- a list that rises, by what is among it
pub numbered_is : (bs : List Bool) (xs : List ℕ) → Rises (λ k. k) xs → ((k : ℕ) → get_or bs k false ≡ is_among xs k) → numbered 0 bs ≡ xs
numbered_is bs xs r h = same_members (numbered 0 bs) xs (rises-numbered bs 0) r (λ k. among_numbered bs k ∙ h k)

pub rises-one_in : (s : ℕ) → Rises (λ k. k) (one_in s)
rises-one_in s = grind (arith, nat_tests)

pub among-one_in : (s k : ℕ) → is_among (one_in s) k ≡ (ltb k 8 && nat_eq s k)
among-one_in s k = grind (arith, nat_tests)

pub numbered_union : (xs ys ms : List Bool) (i : ℕ) → length ys ≤ i → ((t : ℕ) → get_or ms t false ≡ cond (ltb t i) (get_or xs t false || get_or ys t false) (get_or xs t false)) → numbered 0 ms ≡ in_order (numbered 0 xs ++ numbered 0 ys)
numbered_union xs ys ms i l h =
    let all = numbered 0 xs ++ numbered 0 ys in
    numbered_is ms (in_order all) (rises-in_order all)
    (λ k.
    let here = h k in
    let past : (i ≤ k → get_or ys k false ≡ false) = λ u. get_or_past ys k false (omega arith) in
    let both : (get_or ms k false ≡ (get_or xs k false || get_or ys k false)) = grind (arith, nat_tests) in
    rw (among-in_order, among-append, among_numbered, among_numbered) both)

length-filtered : (bs : List Bool) (i : ℕ) → length (numbered i bs) ≡ length (filter (λ b. b) bs)
length-filtered [] i = refl
length-filtered (true ∷ bs) i = ap suc (length-filtered bs (i + 1))
length-filtered (false ∷ bs) i = length-filtered bs (i + 1)

pub length-numbered : (bs : List Bool) (i : ℕ) → length (numbered i bs) ≡ count_by (λ b. b) bs
length-numbered bs i = length-filtered bs i ∙ length-filter (λ b. b) bs

-- ---- by a test

numbered_none : (bs : List Bool) (i : ℕ) → ((t : ℕ) → get_or bs t false ≡ false) → numbered i bs ≡ []
numbered_none [] i h = refl
numbered_none (b ∷ bs) i h = let a = h 0 in let ih = numbered_none bs (i + 1) (λ t. h (suc t)) in grind (arith, nat_tests)

numbered_from : (bs : List Bool) (i n : ℕ) (q : ℕ → Bool) → n ≤ length bs → ((t s : ℕ) → s ≡ i + t → get_or bs t false ≡ (ltb t n && q s)) → numbered i bs ≡ filter q (range_with_len i n)
numbered_from bs i zero q l h = numbered_none bs i (λ t. let a = h t (i + t) refl in grind (arith, nat_tests))
numbered_from [] i (suc n) q l h = absurd (omega arith)
numbered_from (b ∷ bs) i (suc n) q l h =
    let a = h 0 i (omega arith) in
    let ih = numbered_from bs (i + 1) n q (omega arith) (λ t s e. let c = h (suc t) s (omega arith) in grind (arith, nat_tests)) in
    grind (arith, nat_tests)

pub numbered_below : (bs : List Bool) (n : ℕ) (q : ℕ → Bool) → n ≤ length bs → ((t : ℕ) → get_or bs t false ≡ (ltb t n && q t)) → numbered 0 bs ≡ filter q (range_with_len 0 n)
numbered_below bs n q l h = numbered_from bs 0 n q l (λ t s e. let d : s ≡ t = omega arith in rw d (h t))

-- of these, the ones that pass a test
numbered_kept : (bs ds : List Bool) (i : ℕ) (p : ℕ → Bool) → length ds ≡ length bs → ((t s : ℕ) → s ≡ i + t → t < length bs → get_or ds t false ≡ (get_or bs t false && p s)) → numbered i ds ≡ filter p (numbered i bs)
numbered_kept [] [] i p l h = refl
numbered_kept [] (d ∷ ds) i p l h = absurd (omega arith)
numbered_kept (b ∷ bs) [] i p l h = absurd (omega arith)
numbered_kept (b ∷ bs) (d ∷ ds) i p l h =
    let a = h 0 i (omega arith) (omega arith) in
    let ih = numbered_kept bs ds (i + 1) p (omega arith) (λ t s e u. h (suc t) s (omega arith) (omega arith)) in
    grind (arith, nat_tests)

pub numbered_filter : (bs ds : List Bool) (p : ℕ → Bool) → length ds ≡ length bs → ((t : ℕ) → t < length bs → get_or ds t false ≡ (get_or bs t false && p t)) → numbered 0 ds ≡ filter p (numbered 0 bs)
numbered_filter bs ds p l h = numbered_kept bs ds 0 p l (λ t s e u. let d : s ≡ t = omega arith in rw d (h t u))

-- ---- the numbers that a loop has left, at i

abbrev pub left_at : List Bool → ℕ → List ℕ
left_at bs i = numbered i (drop i bs)

pub left_more : (bs : List Bool) (i : ℕ) (b : Bool) → i < length bs → get_or bs i false ≡ b → left_at bs i ≡ (if b then i ∷ left_at bs (i + 1) else left_at bs (i + 1))
left_more bs i b h e = rw (drop_more bs i false h, e)

pub left_none : (bs : List Bool) (i : ℕ) → length bs ≤ i → left_at bs i ≡ []
left_none bs i h = rw drop_all

-- ---- the lowest in use

pub lowest_used : (n : ℕ) (out : Option ℕ) → 1 < n → slice_index_or (in_use n out) 0 0 ≡ cond (is_out out 0) 1 0
lowest_used zero out h = absurd (omega arith)
lowest_used (suc zero) out h = absurd (omega arith)
lowest_used (suc (suc n)) None h = refl
lowest_used (suc (suc n)) (Some s) h = grind (arith, nat_tests)

pub one_lowest : (n : ℕ) (out : Option ℕ) → 1 < n → one_in (slice_index_or (in_use n out) 0 0) ≡ slice_index_or (in_use n out) 0 0 ∷ []
one_lowest n out h =
    rw (lowest_used n out h) (elim (is_out out 0) as (λ b. one_in (cond b 1 0) ≡ cond b 1 0 ∷ []) [ true ↦ refl | false ↦ refl ])
