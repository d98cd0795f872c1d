use Rattle.std.proofs.Common.{ap, ◌∙◌, rules}
use Rattle.std.specs.List.{list_any}
use Rattle.std.proofs.lemmas.Iterator.{YieldsList-from_slice}
use Rattle.std.proofs.lemmas.Iterator.Search.{any_from_yields_List}
use Rattle.geometry.specs.Keys.{number_of}
use Rattle.rack.specs.Entries.{entry_of}
use Rattle.rack.specs.Gathering.{is_worn_at}
use Rattle.manager.proofs.Walks.{any_map}
use Rattle.manager.proofs.pointing.is_worn.Goals as goal

pub returns : goal.returns
returns c =
    let p = is_worn_at c.args.row.servers (number_of c.args.key) in
    any_from_yields_List (λ e. p (entry_of e)) _ _ _ c.any.ensures.ran (YieldsList-from_slice c.elements.result.now (cc)) (λ x r q k. search rules)
    ∙ ap (list_any (λ e. p (entry_of e))) c.elements.ensures
    ∙ any_map p entry_of _
