use Rattle.std.proofs.Common.{arith, subst}
use Rattle.rack.specs.Entries.{block_number}
use Rattle.rack.specs.Worlds.{filled_of}
use Rattle.open_stripe.specs.Newest.{newest_in}
use Rattle.clients.specs.declared.state.ClientState.{ClientState}
use Rattle.clients.specs.Means.{client_of}
use Rattle.clients.specs.Newest.{Finds}
use Rattle.clients.proofs.Newer.{finds_newer, newest_more}
use Rattle.clients.proofs.newest.newest_among.Goals as goal

pub loop-state-preserved : goal.loop-state-preserved
loop-state-preserved c =
    let b = block_number c.args.file c.args.block in
    let next = subst (λ (s : ClientState). Finds (newest_in b (filled_of (client_of s))) c.newest.result) c.state-item.is c.newest.ensures in
    rw (c.newer-newest.ensures, newest_more b c.args.states.now c.loop-state.state-index c.state-item.result (omega arith)) (finds_newer _ _ _ _ c.loop-state.invariant next)
