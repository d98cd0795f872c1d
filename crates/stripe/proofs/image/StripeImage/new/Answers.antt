use Rattle.std.proofs.Common.{◌≡◌, ℕ, suc, ◌+◌, ◌-◌, ◌<◌, ◌≤◌, List, [], ◌∷◌, map, length, get_or, take, set, sym, ap, ◌∙◌, arith, get_or-take, length-set, get_or-set_other, get_or-set_same, below_more}
use Rattle.std.specs.List.{range_with_len}
use Rattle.std.proofs.lemmas.List.FromFn.{fill_by_all}
use Rattle.std.proofs.lemmas.List.{length-take-le}
use Rattle.geometry.specs.Keys.{number_of}
use Rattle.geometry.specs.Placement.{steps_on}
use Rattle.geometry.proofs.Rounds.{steps_below}
use Rattle.parity.specs.Xor.{xor_all}
use Rattle.stripe.specs.Contents.{data_bytes}
use Rattle.stripe.specs.Means.{slots_in}
use Rattle.stripe.specs.Rows.{pieces}
use Rattle.stripe.proofs.Rounds.{missing_is_the_others}
use Rattle.stripe.proofs.image.StripeImage.new.Goals as goal
use Rattle.stripe.proofs.image.StripeImage.new.Goals.{then-index-fragments, else-index-fragments}

-- the parity in front of the data fragments
fronted : (m : ℕ) (ps : List (List ℕ)) (g : ℕ → List ℕ) (parity : List ℕ) → m ≤ length ps → ((i : ℕ) → i < m → get_or ps i [] ≡ g i) → parity ≡ xor_all (take m ps) → take (suc m) (parity ∷ ps) ≡ pieces (map g (range_with_len 0 m))
fronted m ps g parity h each e =
    let rest : take m ps ≡ map g (range_with_len 0 m) = fill_by_all g (take m ps) m [] (length-take-le m ps h) (λ k l. get_or-take m ps k [] l ∙ each k l) in
    ap (λ t. t ∷ take m ps) e ∙ ap (λ t. xor_all t ∷ t) rest

-- one fragment more
one_more : (n : ℕ) (items after : List (List ℕ)) (j : ℕ) (v : List ℕ) (g : ℕ → List ℕ) → after ≡ set items j v → j < 7 → length items ≡ 7 → ((i : ℕ) → i < j → i + 1 < n → get_or items i [] ≡ g i) → (j + 1 < n → v ≡ g j) → (length after ≡ 7) × ((i : ℕ) → i < j + 1 → i + 1 < n → get_or after i [] ≡ g i)
one_more n items after j v g e h long each here = (
  ap length e ∙ length-set items j v ∙ long,
  below_more (λ i. i + 1 < n → get_or after i [] ≡ g i) j
      (λ i l r. ap (λ t. get_or t i []) e ∙ get_or-set_other items j i v [] (λ q. omega arith) ∙ each i l r)
      (λ r. ap (λ t. get_or t j []) e ∙ get_or-set_same items j v [] (omega arith) ∙ here r),
)

pub loop-index-preserved : goal.loop-index-preserved
loop-index-preserved c =
    let n = c.args.stripe.row.servers in
    let g : ℕ → List ℕ = λ i. data_bytes n (number_of c.args.stripe.key) (slots_in c.args.buffer.now) i in
    elim c.if-index-fragments.branch [
      | then-index-fragments w ↦ one_more n c.loop-index.fragment-items _ c.loop-index.index _ g w.fragment-items-is c.loop-index-test.true c.loop-index.invariant.0 c.loop-index.invariant.1 (λ h. w.write_fragment.ensures)
      | else-index-fragments w ↦ one_more n c.loop-index.fragment-items _ c.loop-index.index _ g w.fragment-items-is c.loop-index-test.true c.loop-index.invariant.0 c.loop-index.invariant.1 (λ h. absurd (omega arith))
    ]

pub returns-clause-each : goal.returns-clause-each
returns-clause-each c =
    let n = c.args.stripe.row.servers in
    let k = number_of c.args.stripe.key in
    let items = c.loop-index.fragment-items in
    let front = fronted (n - 1) items (data_bytes n k (slots_in c.args.buffer.now)) c.xor_all.new.out (omega (arith, c.loop-index.invariant.0)) (λ i h. c.loop-index.invariant.1 i (omega arith) (omega arith)) (cc c.xor_all.ensures.sum) in
    λ u h.
    let b : steps_on n k u < suc (n - 1) = omega (arith, steps_below n k (omega arith) u) in
    sym (get_or-take (suc (n - 1)) (c.xor_all.new.out ∷ items) (steps_on n k u) [] b)
    ∙ ap (λ t. get_or t (steps_on n k u) []) front

pub returns-clause-missing : goal.returns-clause-missing
returns-clause-missing c = missing_is_the_others
