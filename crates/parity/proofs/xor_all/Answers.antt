use Rattle.std.proofs.Common.{rules}
use Rattle.parity.specs.Xor.{xor_all}
use Rattle.parity.proofs.Xors.{nought_xored, long_sum, parity_cancels, one_from_the_others}
use Rattle.parity.proofs.xor_all.Goals as goal

pub returns : goal.returns
returns c =
    let long = long_sum c.args.fragments.now c.told-fragments in
    record { sum = search (rules, nought_xored (xor_all c.args.fragments.now) long); cancels = parity_cancels; recovers = one_from_the_others }
