-- An array that a function of the index made.
use Rattle.std.proofs.Common.{◌≡◌, ℕ, zero, suc, ◌+◌, ◌<◌, List, map, get_or, sym, ap, ◌∙◌, arith, subst}
use denote.Param.Members.{Mut, Called}
use Rattle.std.specs.Array.{IsFromFnResult, IsFromFnResultFrom}
use Rattle.std.specs.List.{range_with_len}
use Rattle.std.proofs.lemmas.List.FromFn.{fill_by_all}

-- calls that leave the function as it was, and give what h gives
module _ {F B : Type 0} (g : Mut F (ℕ × Unit {0}) B) (f : F) (h : ℕ → B) (n : ℕ) (d : B)
    (gives : (i : ℕ) (y : B) (q : F) → i < n → Called g f (i, tt) y q → (q ≡ f) × (y ≡ h i)) where
  at : (ys : List B) (m i k j : ℕ) → IsFromFnResultFrom g f ys i m → i + m ≡ n → k < m → i + k ≡ j → get_or ys j d ≡ h j
  at ys zero i k j r e l s = absurd (omega arith)
  at ys (suc m) i zero j (q, y, element, called, rest) e l s =
      let t : i ≡ j = omega arith in
      ap (λ p. get_or ys p d) (sym t) ∙ element.1 d ∙ (gives i y q (omega arith) called).1 ∙ ap h t
  at ys (suc m) i (suc k) j (q, y, element, called, rest) e l s =
      let P : F → Type 0 = λ p. IsFromFnResultFrom g p ys (i + 1) m in
      at ys m (i + 1) k j (subst P (gives i y q (omega arith) called).0 rest) (omega arith) (omega arith) (omega arith)

  pub from_fn_is : (ys : List B) → IsFromFnResult g f ys n → ys ≡ map h (range_with_len 0 n)
  from_fn_is ys r = fill_by_all h ys n d r.long (λ k l. at ys n 0 k k r.each (omega arith) l (omega arith))
