use Rattle.std.proofs.Common.{◌≡◌, ◌+◌, Bool, true, false, cond, Some, None, ap, ◌∙◌, arith, lt-ltb}
use Rattle.geometry.specs.Keys.{number_of}
use Rattle.fragment.specs.Fragments.{read_fragment}
use Rattle.stripe.specs.Means.{slots_in}
use Rattle.stripe.proofs.Filling.{reads_again}
use Rattle.stripe.proofs.buffer.StripeBuffer.data_fragment.Goals as goal

there : {A : Type 0} (b : Bool) {x y : A} → b ≡ true → x ≡ y → Some x ≡ cond b (Some y) None
there true e p = ap Some p
there false e p = cc

pub returns : goal.returns
returns c =
    let n = c.args.stripe.row.servers in
    let k = number_of c.args.stripe.key in
    let xs = slots_in c.args.self.now in
    let written = c.write_fragment.ensures in
    record {
      bytes = there _ (lt-ltb (c.args.index + 1) n (omega arith)) written;
      reads = ap (read_fragment n k c.args.index) written ∙ reads_again n k c.args.index xs (omega arith) c.args.self.now.fair;
    }
