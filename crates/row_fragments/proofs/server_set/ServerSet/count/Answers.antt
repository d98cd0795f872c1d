use Rattle.std.proofs.Common.{rules}
use Rattle.row_fragments.proofs.Servers.{length-numbered}
use Rattle.row_fragments.proofs.server_set.ServerSet.count.Goals as goal

pub returns : goal.returns
returns c = rw (length-numbered c.args.self.now.members 0) (search rules)
