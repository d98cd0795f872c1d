use Rattle.std.proofs.Common.{rules}
use Rattle.row_fragments.proofs.Servers.{among_numbered}
use Rattle.row_fragments.proofs.server_set.ServerSet.contains.Goals as goal

pub returns : goal.returns
returns c = rw (among_numbered c.args.self.now.members c.args.server) (search rules)
