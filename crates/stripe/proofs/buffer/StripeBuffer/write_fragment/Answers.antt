use Rattle.std.proofs.Common.{◌∙◌, arith}
use Rattle.geometry.specs.Keys.{number_of}
use Rattle.stripe.specs.Means.{slots_in}
use Rattle.stripe.proofs.Filling.{headed}
use Rattle.stripe.proofs.buffer.StripeBuffer.write_fragment.Goals as goal

pub returns : goal.returns
returns c =
    let n = c.args.stripe.row.servers in
    let b = c.args.self.now in
    c.set_head.ensures ∙ headed n (number_of c.args.stripe.key) c.args.index (slots_in b) b.slots.fragments b.formed (omega arith)
