use Rattle.std.proofs.Common.{subst, sym, ap, ◌∙◌, rules}
use Rattle.std.proofs.lemmas.Fn.{always_returns_same}
use Rattle.ordered.specs.Maps.{Rises}
use Rattle.ordered.specs.Places.{sought}
use Rattle.ordered.proofs.Places.{sought_is}
use Rattle.ordered.proofs.table.OrderedTable.seek.Goals as goal

pub returns-clause-place : goal.returns-clause-place
returns-clause-place g c =
    let n = g.E.Keyed.number in
    let k = c.args.key in
    let xs = c.elements.result.now in
    let rises = subst (Rises n) (sym c.elements.ensures.items) c.args.self.now.rises in
    let e = c.binary_search_by_key.ensures in
    sought_is n xs k c.binary_search_by_key.result rises e.bound (e.position n (always_returns_same _ _ _ (λ a r f called. search rules))) ∙ ap (λ l. sought n l k) c.elements.ensures.items
