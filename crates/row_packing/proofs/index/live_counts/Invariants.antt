use Rattle.std.proofs.Common.{◌≡◌, map}
use Rattle.std.specs.List.{range_with_len}
use Rattle.geometry.specs.Keys.{key_number}
use Rattle.rack.specs.Gathering.{live_count}
use Rattle.manager.specs.Tables.{entries_in}
use Rattle.row_packing.proofs.index.live_counts.Given as goal

abbrev pub invariant-loop-number : goal.invariant-loop-number
invariant-loop-number l =
    l.counts.items ≡ map (λ j. live_count l.log.row.servers (entries_in l.table) (key_number l.log.client j)) (range_with_len 0 l.number)
