use Rattle.std.proofs.Common.{sym}
use Rattle.stripe.proofs.Filling.{length_slots}
use Rattle.stripe.proofs.buffer.StripeBuffer.filled.Goals as goal

pub returns : goal.returns
returns c = sym (length_slots c.args.self.now)
