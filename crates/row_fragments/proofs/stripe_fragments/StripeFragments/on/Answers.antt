use Rattle.std.proofs.Common.{arith, sym, ◌∙◌}
use Rattle.row_fragments.proofs.Servers.{among_within}
use Rattle.row_fragments.proofs.stripe_fragments.StripeFragments.on.Goals as goal

pub bounds-self-server : goal.bounds-self-server
bounds-self-server c =
    let h = among_within c.args.self.now.holders.members c.args.server (sym c.contains.ensures ∙ c.if-contains.true) in
    omega (arith, c.args.self.now.holders.long)
