use Rattle.std.proofs.Common.{length, ◌/◌, ◌∙◌}
use Rattle.log_server.specs.Records.{record_length}
use Rattle.log_server.proofs.Cuts.{chunks_are}
use Rattle.log_server.proofs.walk.records_in.Goals as goal

pub returns : goal.returns
returns c = c.as_chunks.ensures.front ∙ chunks_are (length c.args.bytes.now / record_length) c.args.bytes.now
