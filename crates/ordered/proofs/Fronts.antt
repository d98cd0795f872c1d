-- The front of the memory, which a list's elements fill.
use Rattle.std.proofs.Common.{◌≡◌, ℕ, suc, ◌+◌, ◌-◌, ◌<◌, ◌≤◌, List, [], ◌∷◌, ◌++◌, length, take, drop, set, sym, ap, ◌∙◌, add-one, arith}
use borrow.Rule.Slice.PartMut.{put_mid, post_of}
use Rattle.std.specs.List.{insert, remove}
use Rattle.std.proofs.lemmas.List.{append_assoc, length-append, drop-drop, take_more_set, drop-append-le, length-take, length-take-le, length-drop, length-set, length_push, drop_at, take_at, take-set-le, take-take, take_min}
use Rattle.std.proofs.lemmas.Slice.{take-put_mid, between_is}

module _ {X : Type 0} where
  -- a count that is clamped to the memory gives the same front
  pub front_is : (len : ℕ) (xs : List X) (count : ℕ) → count ≡ length (take len xs) → take count xs ≡ take len xs
  front_is len xs count e = ap (λ m. take m xs) (e ∙ length-take len xs) ∙ take_min len xs

  -- the last element moved to the front
  abbrev turned_right : List X → List X
  turned_right p = drop (length p - 1) p ++ take (length p - 1) p

  turned_right_lem : (q : List X) (e : X) → turned_right (q ++ e ∷ []) ≡ e ∷ q
  turned_right_lem q e =
      let l : length q ≡ length (q ++ e ∷ []) - 1 = let s = length_push q e in omega arith in
      rw (drop_at q (e ∷ []) (length (q ++ e ∷ []) - 1) l) (rw (take_at q (e ∷ []) (length (q ++ e ∷ []) - 1) l))

  -- the first element moved to the end
  abbrev turned_left : List X → List X
  turned_left p = drop 1 p ++ take 1 p

  module _ (len : ℕ) (xs : List X) (count at : ℕ) (part : List X) (is : count ≡ length (take len xs)) where
    -- e written behind the front and turned to its place
    pub front_inserted : (e : X) → at ≤ count → count < length xs → part ≡ turned_right (take (count + 1 - at) (drop at (set xs count e)))
        → take (count + 1) (put_mid at (count + 1 - at) (set xs count e) part) ≡ insert (take len xs) at e
    front_inserted e la lx turn =
        let l : length (take count xs) ≡ count = length-take-le count xs (omega arith) in
        let q : List X = drop at (take count xs) in
        let p : take (count + 1 - at) (drop at (set xs count e)) ≡ q ++ e ∷ [] =
        between_is (set xs count e) at (count + 1)
        ∙ (ap (drop at) (take_more_set xs count e lx) ∙ drop-append-le at (take count xs) (e ∷ []) (omega arith)) in
        let part_is : part ≡ e ∷ q = turn ∙ (ap turned_right p ∙ turned_right_lem q e) in
        let lq : length q ≡ count - at = length-drop at (take count xs) ∙ ap (λ k. k - at) l in
        let ls : length (set xs count e) ≡ length xs = length-set xs count e in
        let lp : length part ≡ count - at + 1 = ap length part_is ∙ omega arith in
        take-put_mid at (count + 1 - at) (set xs count e) part (count + 1) (omega arith) (omega arith)
        ∙ (ap (λ t. take at (set xs count e) ++ t) part_is
        ∙ (ap (λ t. t ++ e ∷ q) (take-set-le at xs count e la ∙ sym (take-take at count xs la))
        ∙ ap (λ t. insert t at e) (front_is len xs count is)))

    -- the element at a place turned to behind the front
    pub front_removed : at < count → count ≤ length xs → part ≡ turned_left (take (count - at) (drop at xs))
        → take (count - 1) (put_mid at (count - at) xs part) ≡ remove (take len xs) at
    front_removed la lx turn =
        let ys : List X = take count xs in
        let l : length ys ≡ count = length-take-le count xs lx in
        let rest : drop 1 (drop at ys) ≡ drop (suc at) ys = drop-drop 1 at ys ∙ ap (λ k. drop k ys) (add-one at) in
        let part_is : part ≡ drop (suc at) ys ++ take 1 (drop at ys) =
        turn ∙ (ap turned_left (between_is xs at count) ∙ ap (λ t. t ++ take 1 (drop at ys)) rest) in
        let whole : put_mid at (count - at) xs part ≡ remove ys at ++ (take 1 (drop at ys) ++ post_of at (count - at) xs) =
        ap (λ t. take at xs ++ (t ++ post_of at (count - at) xs)) part_is
        ∙ (ap (λ t. t ++ ((drop (suc at) ys ++ take 1 (drop at ys)) ++ post_of at (count - at) xs)) (sym (take-take at count xs (omega arith)))
        ∙ simp append_assoc) in
        let lt : length (take at ys) ≡ at = length-take-le at ys (omega arith) in
        let ld : length (drop (suc at) ys) ≡ count - suc at = length-drop (suc at) ys ∙ ap (λ k. k - suc at) l in
        let lr : length (remove ys at) ≡ count - 1 = length-append (take at ys) (drop (suc at) ys) ∙ omega arith in
        ap (take (count - 1)) whole
        ∙ (take_at (remove ys at) (take 1 (drop at ys) ++ post_of at (count - at) xs) (count - 1) lr
        ∙ ap (λ t. remove t at) (front_is len xs count is))
