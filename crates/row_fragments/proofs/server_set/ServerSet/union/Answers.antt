use Rattle.std.proofs.Common.{◌≤◌, length, arith}
use Rattle.rack.proofs.Orders.{in_order_more}
use Rattle.row_fragments.proofs.Servers.{numbered_union}
use Rattle.row_fragments.proofs.server_set.ServerSet.union.Goals as goal

pub returns-clause-servers : goal.returns-clause-servers
returns-clause-servers c =
    let l = c.loop-server in
    let h : length c.args.other.members ≤ l.server = omega (arith, c.args.other.long) in
    numbered_union c.args.self.members c.args.other.members l.member-items l.server h l.invariant

pub returns-clause-law : goal.returns-clause-law
returns-clause-law c = in_order_more
