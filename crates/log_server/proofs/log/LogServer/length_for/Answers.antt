use Rattle.log_server.proofs.Laws.{examples}
use Rattle.log_server.proofs.log.LogServer.length_for.Goals as goal

pub returns-clause-examples : goal.returns-clause-examples
returns-clause-examples c = examples
