use Rattle.std.proofs.Common.{List, ℕ, [], length, ◌/◌, get_or, ap, ◌∙◌, arith}
use Rattle.log_server.specs.Records.{record_length}
use Rattle.log_server.proofs.Cuts.{length_records, record_is}
use Rattle.log_server.proofs.walk.record_at.Goals as goal

pub bounds-records_in-i : goal.bounds-records_in-i
bounds-records_in-i c =
    let xs = c.args.area.now in
    let l = ap length c.records_in.ensures in
    let n = length_records (length xs / record_length) xs in
    omega arith

pub returns : goal.returns
returns c = ap (λ (rs : List (List ℕ)). get_or rs c.args.i []) c.records_in.ensures ∙ record_is c.args.i c.args.area.now [] c.requires
