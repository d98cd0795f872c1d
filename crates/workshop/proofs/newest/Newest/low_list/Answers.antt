use Rattle.std.proofs.Common.{rules, tests}
use Rattle.std.proofs.lemmas.Iterator.{items_from_collect, YieldsList-from_map}
use Rattle.std.proofs.lemmas.Iterator.Consumers.{YieldsList-from_rest, YieldsList-from_filter, YieldsList-at}
use Rattle.std.proofs.lemmas.Result.{IfOk-weaker}
use Rattle.workshop.specs.Pressures.{is_low}
use Rattle.workshop.specs.Readings.{LowList}
use Rattle.workshop.proofs.Lows.{low_list, low_entry}
use Rattle.workshop.proofs.newest.Newest.low_list.Goals as goal

pub returns : goal.returns
returns c =
    let lows = low_list c.args.self.now c.iter.ensures.ordered in
    let low = YieldsList-from_filter _ (λ e. is_low e.1.kpa) (YieldsList-from_rest c.args.self.now.noted.entries cc) c.filter.ensures.closure (λ x r q k. search (rules, tests)) in
    let made = YieldsList-from_map _ low_entry (YieldsList-at c.map.ensures.source low) c.map.ensures.closure (λ x r q k. search (rules, tests)) in
    IfOk-weaker c.collect.result _ (λ list. LowList c.args.self.now list.items) (λ list e. rw e lows) (items_from_collect c.collect.result c.collect.ensures.ran made)
