use Rattle.std.proofs.Common.{◌<◌, arith}
use Rattle.row_fragments.proofs.Servers.{lowest_used}
use Rattle.row_fragments.proofs.in_use.InUse.lowest.Goals as goal

pub returns-then-is_out : goal.returns-then-is_out
returns-then-is_out c =
    let h : 1 < c.args.self.now.row.servers = omega (arith, c.args.self.now.row.least) in
    rw (lowest_used c.args.self.now.row.servers c.args.self.now.out h, ← c.is_out.ensures, c.if-is_out.true)

pub returns-else-is_out : goal.returns-else-is_out
returns-else-is_out c =
    let h : 1 < c.args.self.now.row.servers = omega (arith, c.args.self.now.row.least) in
    rw (lowest_used c.args.self.now.row.servers c.args.self.now.out h, ← c.is_out.ensures, c.if-is_out.false)
