use Rattle.std.proofs.Common.{◌≡◌, ◌-◌, ◌%◌, ◌++◌, take, drop}
use lib.Lanes.{chunk}
use Rattle.parity.specs.Xor.{xored, xor_all}
use Rattle.parity.proofs.lanes.xor_columns.Given as goal

-- what is done, before what is left to do
abbrev pub invariant-loop-at : goal.invariant-loop-at
invariant-loop-at l = record {
  whole : l.at % 64 ≡ 0;
  sum : l.acc ≡ take l.at (xored l.initial.acc (xor_all l.fragments)) ++ drop l.at l.initial.acc;
}

abbrev pub decreases-loop-at : goal.decreases-loop-at
decreases-loop-at l = 512 - l.at

-- what is summed, with the column of what is left, is the column of the whole
abbrev pub invariant-loop-fragment : goal.invariant-loop-fragment
invariant-loop-fragment l =
    xored l.sum (chunk l.at 64 (xor_all (drop l.fragment-index l.fragments))) ≡ xored l.initial.sum (chunk l.at 64 (xor_all l.fragments))
