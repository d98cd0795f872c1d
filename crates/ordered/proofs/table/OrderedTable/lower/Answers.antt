use Rattle.std.proofs.Common.{ltb, subst, sym, ap, ◌∙◌, rules}
use Rattle.std.proofs.lemmas.List.Sorted.{IsPartitionPoint-from_clause, IsPartitionedBy-ltb}
use Rattle.ordered.specs.Maps.{Rises}
use Rattle.ordered.specs.Places.{place}
use Rattle.ordered.proofs.Places.{climbs, place_parts}
use Rattle.ordered.proofs.table.OrderedTable.lower.Goals as goal

pub returns-clause-place : goal.returns-clause-place
returns-clause-place g c =
    let n = g.E.Keyed.number in
    let k = c.args.key in
    let xs = c.elements.result.now in
    let rises = subst (Rises n) (sym c.elements.ensures.items) c.args.self.now.rises in
    let parts =
    IsPartitionPoint-from_clause (λ y. ltb (n y) k) xs _ c.partition_point.ensures.partitioned (IsPartitionedBy-ltb n xs k (climbs n xs rises)) (λ a r q f. search rules) in
    place_parts n xs k _ c.partition_point.ensures.bound parts ∙ ap (λ l. place n l k) c.elements.ensures.items
