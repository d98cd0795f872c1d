use Rattle.std.proofs.Common.{refl, arith}
use Rattle.stripe.specs.Contents.{open_fragments}
use Rattle.stripe.proofs.buffer.StripeBuffer.new.Goals as goal

pub invariant_of-result : goal.invariant_of-result
unfolding open_fragments
invariant_of-result c = record { few = omega arith; formed = refl; fair = tt }
