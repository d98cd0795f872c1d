use Rattle.std.proofs.Common.{◌+◌, eqb, List, ap, ◌∙◌, rules}
use Rattle.std.proofs.lemmas.Iterator.{YieldsList-from_slice}
use Rattle.std.proofs.lemmas.Iterator.Search.{any_from_yields_List}
use borrow.Author.Tests.{tests}
use Rattle.ordered.specs.Maps.{has}
use Rattle.server.specs.Meaning.{Piece, piece_key}
use Rattle.log_server.specs.Records.{record_key, records_in}
use Rattle.log_server.specs.Area.{pieces_in}
use Rattle.log_server.proofs.Cuts.{pieces_after}
use Rattle.log_server.proofs.Places.{any_has}
use Rattle.log_server.proofs.apart.comes_again.Goals as goal

pub returns : goal.returns
returns c =
    let xs = c.args.records.now in
    let later = c.split_at.result.1.now in
    let road = YieldsList-from_slice (records_in later) cc in
    any_from_yields_List (λ r. eqb (record_key r) c.args.key) _ _ c.any.result c.any.ensures.ran road (λ x b q k. search (rules, tests))
    ∙ any_has (records_in later) c.args.key
    ∙ ap (λ (ps : List Piece). has piece_key ps c.args.key) (ap pieces_in c.split_at.ensures.back ∙ pieces_after (c.args.i + 1) xs c.requires)
