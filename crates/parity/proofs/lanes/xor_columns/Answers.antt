use Rattle.std.proofs.Common.{ℕ, ◌-◌, List, [], get_or, drop, sym, ◌∙◌, arith}
use lib.Bits.{bit_xor}
use Rattle.std.proofs.lemmas.Grind.{common_steps}
use Rattle.std.proofs.lemmas.List.{take-take}
use Rattle.parity.specs.Xor.{xor_all}
use Rattle.parity.proofs.Xors.{length_xored, long_sum}
use Rattle.parity.proofs.Zips.{zip2_more}
use Rattle.parity.proofs.Columns.{column_more, column_all}
use Rattle.parity.proofs.lanes.xor_columns.Goals as goal

-- an array's part from `at` on goes to place 512, so the column of it is taken twice
pub loop-fragment-preserved : goal.loop-fragment-preserved
loop-fragment-preserved c =
    let i : ℕ = c.loop-at.at in
    let part : List ℕ = drop i (get_or c.args.fragments.now c.loop-fragment.fragment-index []) in
    rw (take-take 64 (512 - i) part (omega arith))
    (column_more i 64 c.loop-fragment.sum _ _ c.told-fragments c.loop-fragment-test.true ∙ c.loop-fragment.invariant)

pub loop-at-preserved : goal.loop-at-preserved
loop-at-preserved c =
    let fs : List (List ℕ) = c.args.fragments.now in
    let long = long_sum fs c.told-fragments in
    let done = column_all c.loop-at.at 64 c.loop-fragment.sum fs _ c.loop-fragment.auto.sum.0 (omega arith) c.loop-fragment-test.false in
    record {
      whole = omega arith;
      sum = zip2_more bit_xor 64 c.loop-at.at _ _ _ _ (omega arith) (omega arith) c.loop-at.invariant.sum (sym done ∙ c.loop-fragment.invariant);
    }

pub returns : goal.returns
returns c =
    let fs : List (List ℕ) = c.args.fragments.now in
    let long = length_xored c.args.acc.now (xor_all fs) c.requires (long_sum fs c.told-fragments) in
    grind (arith, common_steps)
