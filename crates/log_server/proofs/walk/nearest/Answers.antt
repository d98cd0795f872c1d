use Rattle.std.proofs.Common.{leb, sym, ◌∙◌, rules}
use Rattle.std.proofs.lemmas.Iterator.{YieldsList-from_map, YieldsList-from_slice}
use Rattle.std.proofs.lemmas.Iterator.Adapters.{option_map_id}
use Rattle.std.proofs.lemmas.Iterator.Consumers.{YieldsList-at, YieldsList-from_filter, min_from_yields_List}
use borrow.Author.Tests.{tests}
use Rattle.log_server.specs.Records.{record_key, records_in}
use Rattle.log_server.proofs.Places.{least_is}
use Rattle.log_server.proofs.walk.nearest.Goals as goal

pub returns : goal.returns
returns c =
    sym (option_map_id c.min.result)
    ∙ min_from_yields_List _ c.min.result c.min.ensures.ran
    (YieldsList-from_filter _ (leb c.args.from) (YieldsList-at c.filter.ensures.source
    (YieldsList-from_map _ record_key (YieldsList-at c.map.ensures.source (YieldsList-from_slice (records_in c.args.records.now) cc)) c.map.ensures.closure (λ x r q k. search rules)))
    c.filter.ensures.closure (λ x b q k. search (rules, tests)))
    ∙ least_is c.args.from (records_in c.args.records.now)
