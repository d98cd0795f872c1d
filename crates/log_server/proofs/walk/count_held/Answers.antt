use Rattle.std.proofs.Common.{◌≡◌, length, ap, ◌∙◌, rules}
use Rattle.std.proofs.lemmas.Iterator.{YieldsList-from_slice}
use Rattle.std.proofs.lemmas.Iterator.Consumers.{YieldsList-at, count_from_yields_List}
use Rattle.std.proofs.lemmas.Iterator.Search.{YieldsList-from_take_while}
use borrow.Author.Tests.{tests}
use Rattle.log_server.specs.Records.{is_held, records_in}
use Rattle.log_server.specs.Area.{front}
use Rattle.log_server.proofs.Fronts.{front_is, front_within}
use Rattle.log_server.proofs.walk.count_held.Goals as goal

pub returns : goal.returns
returns c =
    let xs = c.args.records.now in
    let road = YieldsList-at c.take_while.ensures.source (YieldsList-from_slice (records_in xs) cc) in
    let e : c.count.result ≡ length (front (records_in xs)) =
    count_from_yields_List _ _ c.count.ensures.ran (YieldsList-from_take_while _ is_held road c.take_while.ensures.closure c.take_while.ensures.done (λ x b q k. search (rules, tests)))
    ∙ ap length (front_is (records_in xs)) in
    record { is = e; within = front_within c.count.result xs e }
