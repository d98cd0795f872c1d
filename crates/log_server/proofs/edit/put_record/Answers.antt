use Rattle.std.proofs.Common.{arith}
use Rattle.log_server.specs.Records.{held_record}
use Rattle.log_server.proofs.Parts.{put_one}
use Rattle.log_server.proofs.edit.put_record.Goals as goal

pub returns : goal.returns
returns c =
    put_one c.args.i _ c.args.area.now c.write_record.new.bytes (held_record c.args.key.client c.args.key.stripe c.args.fragment.now) (omega arith) c.write_record.ensures
