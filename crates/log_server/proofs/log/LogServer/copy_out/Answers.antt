use Rattle.std.proofs.Common.{◌≡◌, length, drop, Some, sym, ap, ◌∙◌, arith}
use Rattle.std.proofs.lemmas.List.{take_all, length-drop}
use Rattle.std.specs.Result.{result_ok}
use Rattle.geometry.specs.Keys.{number_of}
use Rattle.log_server.specs.Area.{area_pieces}
use Rattle.log_server.specs.Walks.{place_of}
use Rattle.log_server.proofs.Meanings.{held_is, absent_is, fetched_none, fetched_some}
use Rattle.log_server.proofs.log.LogServer.copy_out.Goals as goal

pub returns-in_err-i : goal.returns-in_err-i
returns-in_err-i c =
    let xs = c.args.self.now.bytes.now in
    let k = number_of c.args.key in
    let a = absent_is xs k c.place.result c.in_err-i.field-0.0 c.from_residual.result c.place.ensures.is (sym c.ok_or.ensures.value ∙ c.in_err-i.was) c.from_residual.ensures.1 in
    record { answer = a.1; copied = sym (fetched_none xs k c.args.out.now a.0) }

pub returns : goal.returns
returns c =
    let xs = c.args.self.now.bytes.now in
    let k = number_of c.args.key in
    let e : place_of (area_pieces xs) k ≡ Some c.in_ok-i.i = sym c.place.ensures.is ∙ c.ok_or.ensures.ok_part ∙ ap result_ok c.in_ok-i.was in
    let r = c.record_at-record.result.now in
    let l : length (drop 8 r) ≡ 512 = length-drop 8 r ∙ omega arith in
    let b = c.copy_from_slice.ensures.after ∙ take_all 512 (drop 8 r) (omega arith) ∙ ap (drop 8) c.record_at-record.ensures in
    record { answer = sym (held_is xs k (Some c.in_ok-i.i) e); copied = b ∙ sym (fetched_some xs k c.in_ok-i.i c.args.self.now.held c.args.out.now c.args.self.now.count e) }
