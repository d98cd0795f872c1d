-- Two rows side by side, read and changed on the left and on the right.
use Rattle.std.proofs.Common.{◌≡◌, ℕ, ◌-◌, ◌≤◌, List, ◌++◌, length, take, Some, None, Option, sym, ap, ◌∙◌, arith}
use lib.Seq.{take-set-lt}
use Rattle.std.specs.Option.{SomeIff}
use Rattle.std.proofs.lemmas.List.{get_or_append_left, get_or-append_right, set-append_left, set-append_right, get_or-take, length-take}
use Rattle.server.specs.Meaning.{Meaning}
use Rattle.row.specs.Rows.{nobody, most, count, OnSide}

-- by the number in the right row, if there is one
pub on_side : (xs ys : List Meaning) (s n : ℕ) (o : Option ℕ) → n ≡ count xs → SomeIff o (n ≤ s) (s - n) → OnSide xs ys s o
on_side xs ys s n None e h =
    let l = length-take most xs in (
      omega arith,
      get_or_append_left (take most xs) ys nobody s (omega arith) ∙ get_or-take most xs s nobody (omega arith),
      λ m. ap (λ t. t ++ ys) (take-set-lt most xs s m (omega arith)) ∙ sym (set-append_left (take most xs) ys s m (omega arith)),
    )
on_side xs ys s n (Some t) e h =
    let l : length (take most xs) ≡ n = length-take most xs ∙ omega arith in
    rw h.1 (
      omega arith,
      get_or-append_right (take most xs) ys n s nobody l h.0,
      λ m. sym (set-append_right (take most xs) ys n s m l h.0),
    )
