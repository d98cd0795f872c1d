use Rattle.std.proofs.Common.{◌≡◌, map, replicate, Some, None}
use lib.Seq.{paste}
use Rattle.stripe.specs.Means.{slots_in}
use Rattle.stripe.proofs.buffer.StripeBuffer.deltas.Given as goal

-- the deltas of the slots so far, then none
abbrev pub invariant-loop-slot : goal.invariant-loop-slot
invariant-loop-slot l = l.deltas ≡ paste (replicate 21 None) 0 (map (λ x. Some x.delta) (slots_in l.self)) l.slot
