-- A stripe's fragments, server by server, are its pieces turned round.
use Rattle.std.proofs.Common.{◌≡◌, ℕ, ◌+◌, ◌-◌, ◌<◌, ◌≤◌, List, [], ◌++◌, length, get_or, take, drop, sym, ap, ◌∙◌, arith, get_or-drop, get_or-take}
use native.Mathlib.Decide.{dec_lt}
use Rattle.std.specs.List.{AllByRecursion}
use Rattle.std.proofs.lemmas.List.FromFn.{fill_by_all}
use Rattle.std.proofs.ByRecursion.{All-append, All-take, All-drop}
use Rattle.std.proofs.lemmas.List.{get_or_append_left, get_or-append_right, length-append, length-drop, length-take-le}
use Rattle.geometry.specs.Placement.{parity_server, steps_on}
use Rattle.geometry.proofs.Rounds.{under, over, parity_below}
use Rattle.parity.specs.Xor.{xor_all, nought, Long}
use Rattle.parity.proofs.Xors.{length-xor_all, xor_all_rotated, parity_cancels, one_from_the_others}
use Rattle.stripe.specs.Rows.{pieces, fragment_on, stripe_row, MissingIsTheOthers}

module _ (n k : ℕ) (ds : List (List ℕ)) (pos : 3 ≤ n) (many : length ds ≡ n - 1) where
  abbrev turn : ℕ
  turn = n - parity_server n k

  abbrev turned : List (List ℕ)
  turned = drop turn (pieces ds) ++ take turn (pieces ds)

  below : parity_server n k < n
  below = parity_below n k (omega arith)

  length_turned : length turned ≡ n
  length_turned =
      let b = below in
      let d = length-drop turn (pieces ds) in
      let t = length-take-le turn (pieces ds) (omega arith) in
      length-append (drop turn (pieces ds)) (take turn (pieces ds)) ∙ omega arith

  turned_at : (s : ℕ) → s < n → get_or turned s [] ≡ fragment_on n k ds s
  turned_at s h =
      let b = below in
      let d : length (drop turn (pieces ds)) ≡ parity_server n k = length-drop turn (pieces ds) ∙ omega arith in
      elim (dec_lt s (parity_server n k)) [
        | yes l ↦ (let e : steps_on n k s ≡ turn + s = under n (s + n - parity_server n k) (omega arith) ∙ omega arith in
            get_or_append_left (drop turn (pieces ds)) (take turn (pieces ds)) [] s (omega arith)
            ∙ get_or-drop turn (pieces ds) s [] ∙ ap (λ t. get_or (pieces ds) t []) (sym e))
        | no u ↦ (let e : steps_on n k s ≡ s - parity_server n k = over n (s + n - parity_server n k) (omega arith) (omega arith) ∙ omega arith in
            get_or-append_right (drop turn (pieces ds)) (take turn (pieces ds)) (parity_server n k) s [] d (omega arith)
            ∙ get_or-take turn (pieces ds) (s - parity_server n k) [] (omega arith) ∙ ap (λ t. get_or (pieces ds) t []) (sym e))
      ]

  pub row_turned : turned ≡ stripe_row n k ds
  row_turned = fill_by_all (fragment_on n k ds) turned n [] length_turned turned_at

pub missing_is_the_others : MissingIsTheOthers
missing_is_the_others n k s ds pos many long h =
    let all : AllByRecursion Long (pieces ds) = (length-xor_all ds long, long) in
    let turn : ℕ = n - parity_server n k in
    let row = row_turned n k ds pos many in
    let row_long : AllByRecursion Long (drop turn (pieces ds) ++ take turn (pieces ds)) = All-append Long (drop turn (pieces ds)) (take turn (pieces ds)) (All-drop Long turn (pieces ds) all) (All-take Long turn (pieces ds) all) in
    let clear : xor_all (drop turn (pieces ds) ++ take turn (pieces ds)) ≡ nought = xor_all_rotated (pieces ds) turn all ∙ parity_cancels ds long in
    ap (λ r. xor_all (take s r ++ drop (s + 1) r)) (sym row)
    ∙ one_from_the_others (drop turn (pieces ds) ++ take turn (pieces ds)) s row_long clear (let l = length_turned n k ds pos many in omega arith)
    ∙ turned_at n k ds pos many s h
