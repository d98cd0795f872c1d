use Rattle.std.proofs.Common.{sym, ap, ◌∙◌, rules}
use Rattle.std.specs.List.{list_all}
use Rattle.std.proofs.lemmas.Iterator.{YieldsList-from_slice}
use Rattle.std.proofs.lemmas.Iterator.Search.{all_from_yields_List}
use Rattle.std.proofs.lemmas.List.Folds.{list_all-map}
use Rattle.geometry.specs.Keys.{number_of}
use Rattle.rack.specs.Entries.{entry_of}
use Rattle.manager.specs.Taking.{slots_with}
use Rattle.manager.specs.Pointing.{held_in}
use Rattle.manager.proofs.pointing.holds_all.Goals as goal

pub returns : goal.returns
returns c =
    let p = held_in (number_of c.args.key) c.args.index (slots_with c.args.slots.now) in
    all_from_yields_List (λ e. p (entry_of e)) _ _ _ c.all.ensures.ran (YieldsList-from_slice c.elements.result.now (cc)) (λ x r q k. search rules)
    ∙ ap (list_all (λ e. p (entry_of e))) c.elements.ensures
    ∙ sym (list_all-map p entry_of _)
