-- Laws of ordered maps.
use Rattle.std.proofs.Common.{◌≡◌, ℕ, suc, ◌+◌, ◌<◌, ◌≤◌, true, false, ◌||◌, List, [], ◌∷◌, map, length, Some, None, nat_eq, refl, ◌∙◌, arith}
use Rattle.std.specs.Option.{option_map}
use Rattle.std.proofs.lemmas.Bool.Decides.{nat_tests}
use Rattle.ordered.specs.Maps.{find, has, put, without, least, rises_from, Rises}

module _ {X : Type 0} (n : X → ℕ) where
  -- ---- finding

  pub find_number : (xs : List X) (k : ℕ) (x : X) → find n xs k ≡ Some x → n x ≡ k
  find_number [] k x h = grind (arith, nat_tests)
  find_number (y ∷ ys) k x h = let ih = find_number ys k x in grind (arith, nat_tests)

  pub find_below : (xs : List X) (low k : ℕ) → k < low → rises_from n low xs ≡ true → find n xs k ≡ None
  find_below [] low k l r = refl
  find_below (x ∷ xs) low k l r = let ih = find_below xs (suc (n x)) k in grind (arith, nat_tests)

  pub find_put_same : (xs : List X) (e : X) → find n (put n xs e) (n e) ≡ Some e
  find_put_same [] e = grind (arith, nat_tests)
  find_put_same (x ∷ xs) e = let ih = find_put_same xs e in grind (arith, nat_tests)

  pub find_put_other : (xs : List X) (e : X) (k : ℕ) → (k ≡ n e → ⊥) → find n (put n xs e) k ≡ find n xs k
  find_put_other [] e k h = grind (arith, nat_tests)
  find_put_other (x ∷ xs) e k h = let ih = find_put_other xs e k h in grind (arith, nat_tests)

  pub has_put : (xs : List X) (e : X) (k : ℕ) → has n (put n xs e) k ≡ (nat_eq (n e) k || has n xs k)
  has_put xs e k = let s = find_put_same xs e in let o = find_put_other xs e k in grind (arith, nat_tests)

  without_same : (xs : List X) (low k : ℕ) → rises_from n low xs ≡ true → find n (without n xs k) k ≡ None
  without_same [] low k r = refl
  without_same (x ∷ xs) low k r =
      let ih = without_same xs (suc (n x)) k in let b = find_below xs (suc (n x)) k in grind (arith, nat_tests)

  pub find_without_same : (xs : List X) (k : ℕ) → Rises n xs → find n (without n xs k) k ≡ None
  find_without_same xs = without_same xs 0

  pub find_without_other : (xs : List X) (k q : ℕ) → (q ≡ k → ⊥) → find n (without n xs k) q ≡ find n xs q
  find_without_other [] k q h = refl
  find_without_other (x ∷ xs) k q h = let ih = find_without_other xs k q h in grind (arith, nat_tests)

  -- ---- counting

  pub length_put_new : (xs : List X) (e : X) → has n xs (n e) ≡ false → length (put n xs e) ≡ length xs + 1
  length_put_new [] e h = refl
  length_put_new (x ∷ xs) e h = let ih = length_put_new xs e in grind (arith, nat_tests)

  length_held : (xs : List X) (low : ℕ) (e : X) → rises_from n low xs ≡ true → has n xs (n e) ≡ true → length (put n xs e) ≡ length xs
  length_held [] low e r h = grind (arith, nat_tests)
  length_held (x ∷ xs) low e r h =
      let ih = length_held xs (suc (n x)) e in let b = find_below xs (suc (n x)) (n e) in grind (arith, nat_tests)

  pub length_put_held : (xs : List X) (e : X) → Rises n xs → has n xs (n e) ≡ true → length (put n xs e) ≡ length xs
  length_put_held xs = length_held xs 0

  pub length_without_held : (xs : List X) (k : ℕ) → has n xs k ≡ true → length (without n xs k) + 1 ≡ length xs
  length_without_held [] k h = grind (arith, nat_tests)
  length_without_held (x ∷ xs) k h = let ih = length_without_held xs k in grind (arith, nat_tests)

  pub without_absent : (xs : List X) (k : ℕ) → has n xs k ≡ false → without n xs k ≡ xs
  without_absent [] k h = refl
  without_absent (x ∷ xs) k h = let ih = without_absent xs k in grind (arith, nat_tests)

  -- ---- order

  pub rises_from_lower : (xs : List X) (low high : ℕ) → low ≤ high → rises_from n high xs ≡ true → rises_from n low xs ≡ true
  rises_from_lower [] low high l r = refl
  rises_from_lower (x ∷ xs) low high l r = grind (arith, nat_tests)

  pub rises_from-put : (xs : List X) (low : ℕ) (e : X) → low ≤ n e → rises_from n low xs ≡ true → rises_from n low (put n xs e) ≡ true
  rises_from-put [] low e l r = grind (arith, nat_tests)
  rises_from-put (x ∷ xs) low e l r = let ih = rises_from-put xs (suc (n x)) e in grind (arith, nat_tests)

  pub rises_from-without : (xs : List X) (low k : ℕ) → rises_from n low xs ≡ true → rises_from n low (without n xs k) ≡ true
  rises_from-without [] low k r = refl
  rises_from-without (x ∷ xs) low k r =
      let ih = rises_from-without xs (suc (n x)) k in
      let b = rises_from_lower xs low (suc (n x)) in
      grind (arith, nat_tests)

  pub rises_put : (xs : List X) (e : X) → Rises n xs → Rises n (put n xs e)
  rises_put xs e = rises_from-put xs 0 e (omega arith)

  pub rises_without : (xs : List X) (k : ℕ) → Rises n xs → Rises n (without n xs k)
  rises_without xs = rises_from-without xs 0

  -- ---- the least

  pub least_from : (xs : List X) (k : ℕ) (x : X) → least n xs k ≡ Some x → k ≤ n x
  least_from [] k x h = grind (arith, nat_tests)
  least_from (y ∷ ys) k x h = let ih = least_from ys k x in grind (arith, nat_tests)

  pub least_held : (xs : List X) (k : ℕ) (x : X) → least n xs k ≡ Some x → find n xs (n x) ≡ Some x
  least_held [] k x h = grind (arith, nat_tests)
  least_held (y ∷ ys) k x h = let ih = least_held ys k x in let l = least_from ys k x in grind (arith, nat_tests)

  gap_from : (xs : List X) (low k : ℕ) (x : X) (q : ℕ) → rises_from n low xs ≡ true → least n xs k ≡ Some x → k ≤ q → q < n x → find n xs q ≡ None
  gap_from [] low k x q r h l u = refl
  gap_from (y ∷ ys) low k x q r h l u =
      let ih = gap_from ys (suc (n y)) k x q in let b = find_below ys (suc (n y)) q in grind (arith, nat_tests)

  pub least_gap : (xs : List X) (k : ℕ) (x : X) (q : ℕ) → Rises n xs → least n xs k ≡ Some x → k ≤ q → q < n x → find n xs q ≡ None
  least_gap xs = gap_from xs 0

  pub least_none : (xs : List X) (k q : ℕ) → least n xs k ≡ None → k ≤ q → find n xs q ≡ None
  least_none [] k q h l = refl
  least_none (y ∷ ys) k q h l = let ih = least_none ys k q in grind (arith, nat_tests)

  pub none_least : (xs : List X) (k : ℕ) → ((q : ℕ) → k ≤ q → find n xs q ≡ None) → least n xs k ≡ None
  none_least [] k h = refl
  none_least (y ∷ ys) k h =
      let a = h (n y) in
      let ih = none_least ys k (λ q l. let b = h q l in grind (arith, nat_tests)) in
      grind (arith, nat_tests)

  -- ---- one map has one list

  same_from : (xs ys : List X) (low : ℕ) → rises_from n low xs ≡ true → rises_from n low ys ≡ true
      → ((k : ℕ) → find n xs k ≡ find n ys k) → xs ≡ ys
  same_from [] [] low r s f = refl
  same_from [] (y ∷ ys) low r s f = let a = f (n y) in grind (arith, nat_tests)
  same_from (x ∷ xs) [] low r s f = let a = f (n x) in grind (arith, nat_tests)
  same_from (x ∷ xs) (y ∷ ys) low r s f =
      let a = f (n x) in
      let b = f (n y) in
      let p = find_below xs (suc (n x)) in
      let q = find_below ys (suc (n y)) in
      let px = p (n y) in
      let qy = q (n x) in
      let e : n x ≡ n y = grind (arith, nat_tests) in
      let tails : (k : ℕ) → find n xs k ≡ find n ys k =
      λ k. let c = f k in let u = p k in let v = q k in grind (arith, nat_tests) in
      let ih = same_from xs ys (suc (n x)) in
      grind (arith, nat_tests)

  pub same_from_finds : (xs ys : List X) → Rises n xs → Rises n ys → ((k : ℕ) → find n xs k ≡ find n ys k) → xs ≡ ys
  same_from_finds xs ys = same_from xs ys 0

-- ---- elements seen through a function that keeps their numbers

module _ {X Y : Type 0} (n : X → ℕ) (m : Y → ℕ) (g : X → Y) (same : (x : X) → m (g x) ≡ n x) where
  pub find_map : (xs : List X) (k : ℕ) → find m (map g xs) k ≡ option_map g (find n xs k)
  find_map [] k = refl
  find_map (x ∷ xs) k = let ih = find_map xs k in let s = same x in grind (arith, nat_tests)

  pub has_map : (xs : List X) (k : ℕ) → has m (map g xs) k ≡ has n xs k
  has_map [] k = refl
  has_map (x ∷ xs) k = let ih = has_map xs k in let s = same x in grind (arith, nat_tests)

  pub put_map : (xs : List X) (e : X) → put m (map g xs) (g e) ≡ map g (put n xs e)
  put_map [] e = refl
  put_map (x ∷ xs) e = let ih = put_map xs e in let s = same x in let t = same e in grind (arith, nat_tests)

  pub without_map : (xs : List X) (k : ℕ) → without m (map g xs) k ≡ map g (without n xs k)
  without_map [] k = refl
  without_map (x ∷ xs) k = let ih = without_map xs k in let s = same x in grind (arith, nat_tests)

  pub least_map : (xs : List X) (k : ℕ) → least m (map g xs) k ≡ option_map g (least n xs k)
  least_map [] k = refl
  least_map (x ∷ xs) k = let ih = least_map xs k in let s = same x in grind (arith, nat_tests)

  pub rises_from-map : (xs : List X) (low : ℕ) → rises_from m low (map g xs) ≡ rises_from n low xs
  rises_from-map [] low = refl
  rises_from-map (x ∷ xs) low = let ih = rises_from-map xs (suc (n x)) in let s = same x in grind (arith, nat_tests)

  pub rises_map : (xs : List X) → Rises n xs → Rises m (map g xs)
  rises_map xs r = rises_from-map xs 0 ∙ r
