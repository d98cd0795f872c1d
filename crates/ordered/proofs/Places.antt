-- Places in an ordered map, and what stands there.
use Rattle.std.proofs.Common.{◌≡◌, ℕ, zero, suc, ◌<◌, ◌≤◌, true, false, List, [], ◌∷◌, length, get_or, set, Ok, Err, Result, ltb, ltb-true, ltb-false, refl, sym, ap, ◌∙◌, arith}
use Rattle.std.specs.List.{insert, remove, slice_get}
use Rattle.std.specs.List.Sorted.{IsNonDecreasingBy, IsPartitionPoint, IsSearchInRange, IsBinarySearchResult}
use Rattle.std.specs.Ordering.{nat_cmp, ordering_index}
use Rattle.std.proofs.lemmas.Bool.Decides.{nat_tests}
use Rattle.std.proofs.lemmas.Cmp.{ranked}
use Rattle.ordered.specs.Maps.{find, has, put, without, least, rises_from, Rises}
use Rattle.ordered.specs.Places.{place, sought}
use Rattle.ordered.proofs.Maps.{find_below, rises_put, rises_without}

module _ {X : Type 0} (n : X → ℕ) where
  -- ---- the order, place by place

  not_below : (xs : List X) (low i : ℕ) (d : X) → rises_from n low xs ≡ true → i < length xs → low ≤ n (get_or xs i d)
  not_below [] low i d r l = omega arith
  not_below (x ∷ xs) low zero d r l = grind (arith, nat_tests)
  not_below (x ∷ xs) low (suc i) d r l = let ih = not_below xs (suc (n x)) i d in grind (arith, nat_tests)

  climbs_from : (xs : List X) (low : ℕ) → rises_from n low xs ≡ true → IsNonDecreasingBy n xs
  climbs_from [] low r i j d le l = omega arith
  climbs_from (x ∷ xs) low r zero zero d le l = omega arith
  climbs_from (x ∷ xs) low r zero (suc j) d le l = let b = not_below xs (suc (n x)) j d in grind (arith, nat_tests)
  climbs_from (x ∷ xs) low r (suc i) zero d le l = omega arith
  climbs_from (x ∷ xs) low r (suc i) (suc j) d le l = let ih = climbs_from xs (suc (n x)) in grind (arith, nat_tests, ih)

  pub climbs : (xs : List X) → Rises n xs → IsNonDecreasingBy n xs
  climbs xs = climbs_from xs 0

  -- ---- which place a search finds

  -- smaller numbers before it and no smaller ones from it on
  place_between : (xs : List X) (k i : ℕ) → i ≤ length xs
      → ((j : ℕ) (d : X) → j < i → n (get_or xs j d) < k) → ((j : ℕ) (d : X) → i ≤ j → j < length xs → k ≤ n (get_or xs j d))
      → i ≡ place n xs k
  place_between [] k i l b a = omega arith
  place_between (x ∷ xs) k zero l b a = let h = a 0 x in grind (arith, nat_tests)
  place_between (x ∷ xs) k (suc i) l b a =
      let h = b 0 x in
      let ih = place_between xs k i (omega arith) (λ j d u. b (suc j) d (omega arith)) (λ j d u v. a (suc j) d (omega arith) (omega arith)) in
      grind (arith, nat_tests)

  pub place_parts : (xs : List X) (k i : ℕ) → i ≤ length xs → IsPartitionPoint (λ y. ltb (n y) k ≡ true) (λ y. ltb (n y) k ≡ false) xs i → i ≡ place n xs k
  place_parts xs k i l p =
      place_between xs k i l (λ j d u. ltb-true _ _ (p.0 j d (omega arith) u)) (λ j d u v. ltb-false _ _ (p.1 j d u v))

  held_here : (xs : List X) (low k i : ℕ) → rises_from n low xs ≡ true → i < length xs → ((d : X) → n (get_or xs i d) ≡ k) → (i ≡ place n xs k) × (has n xs k ≡ true)
  held_here [] low k i r l h = absurd (omega arith)
  held_here (x ∷ xs) low k zero r l h = let e = h x in (grind (arith, nat_tests), grind (arith, nat_tests))
  held_here (x ∷ xs) low k (suc i) r l h =
      let e = h x in
      let b = not_below xs (suc (n x)) i x in
      let ih = held_here xs (suc (n x)) k i in
      (grind (arith, nat_tests, ih), grind (arith, nat_tests, ih))

  held_nowhere : (xs : List X) (k : ℕ) → ((j : ℕ) (d : X) → j < length xs → n (get_or xs j d) ≡ k → ⊥) → has n xs k ≡ false
  held_nowhere [] k h = refl
  held_nowhere (x ∷ xs) k h =
      let e = h 0 x in
      let ih = held_nowhere xs k (λ j d l. h (suc j) d (omega arith)) in
      grind (arith, nat_tests)

  -- the comparisons with k rise with the numbers
  comparisons_climb : (xs : List X) (k : ℕ) → Rises n xs → IsNonDecreasingBy (λ y. ordering_index (nat_cmp (n y) k)) xs
  comparisons_climb xs k r i j d le l = let c = climbs xs r i j d le l in grind (arith, nat_tests)

  pub sought_is : (xs : List X) (k : ℕ) (r : Result ℕ ℕ) → Rises n xs → IsSearchInRange r (length xs) → IsBinarySearchResult (λ y. nat_cmp (n y) k) xs r → r ≡ sought n xs k
  sought_is xs k (Ok i) rises l h = let here = held_here xs 0 k i rises l (λ d. ranked _ k _ (sym (h d))) in grind (arith, nat_tests)
  sought_is xs k (Err i) rises l h =
      let p = h (comparisons_climb xs k rises) in
      let before : (j : ℕ) (d : X) → j < i → n (get_or xs j d) < k = λ j d u. ranked _ k _ (sym (p.0 j d (omega arith) u)) in
      let after : (j : ℕ) (d : X) → i ≤ j → j < length xs → k < n (get_or xs j d) = λ j d u v. ranked _ k _ (sym (p.1 j d u v)) in
      let e = place_between xs k i l before (λ j d u v. let a = after j d u v in omega arith) in
      let lacks = held_nowhere xs k (λ j d v same. let a = before j d in let b = after j d in grind arith) in
      grind (arith, nat_tests)

  -- ---- what stands there

  pub least_place : (xs : List X) (k : ℕ) → slice_get xs (place n xs k) ≡ least n xs k
  least_place [] k = refl
  least_place (x ∷ xs) k = let ih = least_place xs k in grind (arith, nat_tests)

  find_place : (xs : List X) (low k : ℕ) → rises_from n low xs ≡ true → has n xs k ≡ true → slice_get xs (place n xs k) ≡ find n xs k
  find_place [] low k r h = refl
  find_place (x ∷ xs) low k r h =
      let ih = find_place xs (suc (n x)) k in let b = find_below n xs (suc (n x)) k in grind (arith, nat_tests)

  put_place : (xs : List X) (e : X) → has n xs (n e) ≡ false → insert xs (place n xs (n e)) e ≡ put n xs e
  put_place [] e h = refl
  put_place (x ∷ xs) e h = let ih = put_place xs e in grind (arith, nat_tests)

  set_place : (xs : List X) (low : ℕ) (e : X) → rises_from n low xs ≡ true → has n xs (n e) ≡ true → set xs (place n xs (n e)) e ≡ put n xs e
  set_place [] low e r h = grind (arith, nat_tests)
  set_place (x ∷ xs) low e r h =
      let ih = set_place xs (suc (n x)) e in let b = find_below n xs (suc (n x)) (n e) in grind (arith, nat_tests)

  without_place : (xs : List X) (low k : ℕ) → rises_from n low xs ≡ true → has n xs k ≡ true → remove xs (place n xs k) ≡ without n xs k
  without_place [] low k r h = refl
  without_place (x ∷ xs) low k r h =
      let ih = without_place xs (suc (n x)) k in let b = find_below n xs (suc (n x)) k in grind (arith, nat_tests)

  -- ---- what an edit at a place that was sought leaves

  pub sought_held : (xs : List X) (k i : ℕ) → Ok i ≡ sought n xs k → (i ≡ place n xs k) × (has n xs k ≡ true)
  sought_held xs k i s = (grind (arith, nat_tests), grind (arith, nat_tests))

  pub sought_lacks : (xs : List X) (k i : ℕ) → Err i ≡ sought n xs k → (i ≡ place n xs k) × (has n xs k ≡ false)
  sought_lacks xs k i s = (grind (arith, nat_tests), grind (arith, nat_tests))

  pub nth_sought : (xs : List X) (k i : ℕ) → Rises n xs → Ok i ≡ sought n xs k → slice_get xs i ≡ find n xs k
  nth_sought xs k i r s = let h = sought_held xs k i s in ap (slice_get xs) h.0 ∙ find_place xs 0 k r h.1

  -- ys is the list after it
  module _ (xs ys : List X) (k i : ℕ) (rises : Rises n xs) where
    pub inserted : (e : X) → k ≡ n e → Err i ≡ sought n xs k → ys ≡ insert xs i e → (ys ≡ put n xs e) × Rises n ys
    inserted e is s after =
        let h = sought_lacks xs (n e) i (s ∙ ap (sought n xs) is) in
        let same : ys ≡ put n xs e = after ∙ (ap (λ p. insert xs p e) h.0 ∙ put_place xs e h.1) in
        (same, ap (rises_from n 0) same ∙ rises_put n xs e rises)

    pub replaced : (e : X) → k ≡ n e → Ok i ≡ sought n xs k → ys ≡ set xs i e → (ys ≡ put n xs e) × Rises n ys
    replaced e is s after =
        let h = sought_held xs (n e) i (s ∙ ap (sought n xs) is) in
        let same : ys ≡ put n xs e = after ∙ (ap (λ p. set xs p e) h.0 ∙ set_place xs 0 e rises h.1) in
        (same, ap (rises_from n 0) same ∙ rises_put n xs e rises)

    pub removed : Ok i ≡ sought n xs k → ys ≡ remove xs i → (ys ≡ without n xs k) × Rises n ys
    removed s after =
        let h = sought_held xs k i s in
        let same : ys ≡ without n xs k = after ∙ (ap (remove xs) h.0 ∙ without_place xs 0 k rises h.1) in
        (same, ap (rises_from n 0) same ∙ rises_without n xs k rises)
