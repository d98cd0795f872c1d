use Rattle.std.proofs.Common.{◌*◌, sym, ◌∙◌, arith}
use Rattle.std.proofs.lemmas.List.{length-take-le}
use Rattle.log_server.specs.Records.{record_length}
use Rattle.log_server.proofs.Areas.{area_kept, kept_pieces}
use Rattle.log_server.proofs.Cuts.{pieces_in_take}
use Rattle.log_server.proofs.log.LogServer.held_records.Goals as goal

pub returns : goal.returns
returns c =
    let s = c.args.self.now in
    let k = area_kept s.bytes.now in
    pieces_in_take s.held s.bytes.now (omega arith) ∙ kept_pieces s.bytes.now s.held s.count

pub slice_bounds-result-end : goal.slice_bounds-result-end
slice_bounds-result-end c =
    let s = c.args.self.now in
    let k = area_kept s.bytes.now in
    sym (length-take-le (record_length * s.held) s.bytes.now (omega arith))
