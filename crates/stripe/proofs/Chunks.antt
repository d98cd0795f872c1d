-- Lists joined of pieces of one length.
use Rattle.std.proofs.Common.{◌≡◌, ℕ, zero, suc, ◌+◌, ◌*◌, ◌<◌, List, [], ◌∷◌, ◌++◌, length, get_or, take, drop, set, sym, ap, ◌∙◌, suc-mul, arith, take-add}
use Rattle.std.specs.List.{flat_map, AllByRecursion}
use Rattle.std.proofs.lemmas.List.{take_at, drop_at, drop-drop, append_assoc}

-- past a front of n elements
pub drop_past : {A : Type 0} (p q : List A) (n m : ℕ) → length p ≡ n → drop (n + m) (p ++ q) ≡ drop m q
drop_past p q n m e = sym (drop-drop m n (p ++ q)) ∙ ap (drop m) (drop_at p q n e)

pub take_past : {A : Type 0} (p q : List A) (n m : ℕ) → length p ≡ n → take (n + m) (p ++ q) ≡ p ++ take m q
take_past p q n m e =
    take-add n m (p ++ q) ∙ ap (λ t. t ++ take m (drop n (p ++ q))) (take_at p q n e) ∙ ap (λ t. p ++ take m t) (drop_at p q n e)

-- a part past a front, and one written over there
pub part_past : {A : Type 0} (p q : List A) (n m k : ℕ) → length p ≡ n → take k (drop (n + m) (p ++ q)) ≡ take k (drop m q)
part_past p q n m k e = ap (take k) (drop_past p q n m e)

pub put_past : {A : Type 0} (p q y : List A) (n m k : ℕ) → length p ≡ n → take (n + m) (p ++ q) ++ (y ++ drop (n + m + k) (p ++ q)) ≡ p ++ (take m q ++ (y ++ drop (m + k) q))
put_past p q y n m k e =
    let s : n + m + k ≡ n + (m + k) = omega arith in
    ap (λ t. t ++ (y ++ drop (n + m + k) (p ++ q))) (take_past p q n m e)
    ∙ ap (λ t. (p ++ take m q) ++ (y ++ drop t (p ++ q))) s
    ∙ ap (λ t. (p ++ take m q) ++ (y ++ t)) (drop_past p q n (m + k) e)
    ∙ append_assoc p (take m q) (y ++ drop (m + k) q)

module _ {A X : Type 0} (f : X → List A) (size : ℕ) where
  abbrev Even : List X → Type 0
  Even = AllByRecursion (λ x. length (f x) ≡ size)

  -- piece j
  pub joined_at : (xs : List X) (j : ℕ) (d : X) → Even xs → j < length xs → take size (drop (j * size) (flat_map f xs)) ≡ f (get_or xs j d)
  joined_at [] j d a h = absurd (omega arith)
  joined_at (x ∷ xs) zero d a h =
      let z : 0 * size ≡ 0 = omega arith in
      ap (λ t. take size (drop t (flat_map f (x ∷ xs)))) z ∙ take_at (f x) (flat_map f xs) size a.0
  joined_at (x ∷ xs) (suc j) d a h =
      let e : suc j * size ≡ size + j * size = suc-mul j size ∙ omega arith in
      ap (λ t. take size (drop t (flat_map f (x ∷ xs)))) e
      ∙ part_past (f x) (flat_map f xs) size (j * size) size a.0
      ∙ joined_at xs j d a.1 (omega arith)

  -- piece j written over
  pub joined_put : (xs : List X) (j : ℕ) (y : X) → Even xs → j < length xs → take (j * size) (flat_map f xs) ++ (f y ++ drop (j * size + size) (flat_map f xs)) ≡ flat_map f (set xs j y)
  joined_put [] j y a h = absurd (omega arith)
  joined_put (x ∷ xs) zero y a h =
      let z : 0 * size ≡ 0 = omega arith in
      let w : 0 + size ≡ size = omega arith in
      ap (λ t. take t (flat_map f (x ∷ xs)) ++ (f y ++ drop (t + size) (flat_map f (x ∷ xs)))) z
      ∙ ap (λ t. f y ++ drop t (flat_map f (x ∷ xs))) w
      ∙ ap (λ t. f y ++ t) (drop_at (f x) (flat_map f xs) size a.0)
  joined_put (x ∷ xs) (suc j) y a h =
      let e : suc j * size ≡ size + j * size = suc-mul j size ∙ omega arith in
      ap (λ t. take t (flat_map f (x ∷ xs)) ++ (f y ++ drop (t + size) (flat_map f (x ∷ xs)))) e
      ∙ put_past (f x) (flat_map f xs) (f y) size (j * size) size a.0
      ∙ ap (λ t. f x ++ t) (joined_put xs j y a.1 (omega arith))
