use Rattle.std.proofs.Common.{Err, ap, ◌∙◌}
use Rattle.std.proofs.lemmas.Result.{err_from_is_err_and}
use Rattle.row_packing.proofs.Fetches.{given}
use Rattle.row_packing.proofs.Tables.{bytes_read, bytes_bad}
use Rattle.row_packing.proofs.index.fragment_deltas.Goals as goal

pub returns-in_err-read-clause-deltas : goal.returns-in_err-read-clause-deltas
returns-in_err-read-clause-deltas g c =
    let p = err_from_is_err_and c.from_residual-in_err-read.result c.from_residual-in_err-read.ensures.1 in
    let fetched = given _ c.in_ok-fragment.fragment _ c.in_ok-fragment.ensures.fragment in
    let whole = rw c.data_server.ensures at fetched in
    p.1 ∙ ap Err p.2 ∙ bytes_bad _ _ _ whole.0 (rw whole.1 at c.in_err-read.ensures.answer)

pub returns-clause-deltas : goal.returns-clause-deltas
returns-clause-deltas g c =
    let fetched = given _ c.in_ok-fragment.fragment _ c.in_ok-fragment.ensures.fragment in
    let whole = rw c.data_server.ensures at fetched in
    bytes_read _ _ _ whole.0 (rw whole.1 at c.in_ok-read.ensures.answer)
