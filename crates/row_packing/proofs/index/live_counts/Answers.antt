use Rattle.std.proofs.Common.{arith}
use Rattle.std.proofs.lemmas.Grind.{common_steps}
use Rattle.std.proofs.lemmas.List.FromFn.{map-range_with_len_more}
use Rattle.geometry.specs.Keys.{number_of, key_number}
use Rattle.rack.specs.Gathering.{live_count}
use Rattle.manager.specs.Tables.{entries_in}
use Rattle.row_packing.proofs.index.live_counts.Goals as goal

pub loop-number-preserved : goal.loop-number-preserved
loop-number-preserved c =
    let l = c.loop-number in
    let log = c.args.log in
    let es = entries_in c.args.table.now in
    let count = rw c.in_ok-stripe.ensures.key at (c.count.ensures es (number_of c.in_ok-stripe.stripe.key) c.of.ensures) in
    let more = map-range_with_len_more (λ j. live_count log.row.servers es (key_number log.client j)) 0 l.number l.number (omega arith) in
    grind (arith, common_steps)
