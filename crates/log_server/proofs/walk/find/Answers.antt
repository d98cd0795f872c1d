use Rattle.std.proofs.Common.{eqb, ◌∙◌, rules}
use Rattle.std.proofs.lemmas.Iterator.{YieldsList-from_slice}
use Rattle.std.proofs.lemmas.Iterator.Search.{position_from_yields_List}
use borrow.Author.Tests.{tests}
use Rattle.log_server.specs.Records.{record_key, records_in}
use Rattle.log_server.proofs.Places.{place_is}
use Rattle.log_server.proofs.walk.find.Goals as goal

pub returns : goal.returns
returns c =
    let road = YieldsList-from_slice (records_in c.args.records.now) cc in
    position_from_yields_List (λ r. eqb (record_key r) c.args.key) _ _ c.position.result c.position.ensures.ran road (λ x b q k. search (rules, tests)) ∙ place_is (records_in c.args.records.now) c.args.key
