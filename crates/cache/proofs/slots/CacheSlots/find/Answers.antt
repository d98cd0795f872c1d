use Rattle.std.proofs.Common.{◌≡◌, false, cond, List, [], Option, ◌==◌, subst, arith, rules, tests}
use Rattle.std.specs.List.{find, flat_map}
use Rattle.std.specs.Option.{option_map, option_to_list}
use Rattle.std.specs.Iterator.Adapters.{option_iter_item, option_iter_done, option_iter_steps}
use Rattle.std.specs.declared.option.Iter.{OptionIter}
use Rattle.std.proofs.lemmas.Iterator.{YieldsList, YieldsList-from_slice}
use Rattle.std.proofs.lemmas.Iterator.Adapters.{YieldsList-from_flatten}
use Rattle.std.proofs.lemmas.Iterator.Consumers.{YieldsList-from_shown}
use Rattle.std.proofs.lemmas.Iterator.Search.{find_from_yields_List}
use Rattle.geometry.specs.Keys.{number_of}
use Rattle.server.specs.declared.stored.StoredFragment.{StoredFragment}
use Rattle.cache.proofs.Cached.{cached_found}
use Rattle.cache.proofs.slots.CacheSlots.find.Goals as goal

abbrev left : OptionIter StoredFragment → List StoredFragment
left s = cond (option_iter_done s) [] (option_to_list (option_iter_item s))

-- what a slot gives to a flattened chain
yields_slot : (s : OptionIter StoredFragment) (o : Option StoredFragment) → option_iter_item s ≡ o → option_iter_done s ≡ false → YieldsList option_iter_steps (λ r. r.now) s (option_to_list o)
yields_slot s o e d =
    subst (λ xs. YieldsList option_iter_steps (λ r. r.now) s xs) (grind arith)
    (YieldsList-from_shown option_iter_steps (λ r. r.now) left (λ s t h. grind arith) (λ s x t h. grind arith) s)

pub returns : goal.returns
returns c =
    let found : option_map (λ r. r.now) c.find.result ≡ find (λ (f : StoredFragment). number_of f.key == number_of c.args.key) (flat_map option_to_list c.args.self.now.all) =
    find_from_yields_List (λ (f : StoredFragment). number_of f.key == number_of c.args.key) _ _ c.find.result c.find.ensures.ran
    (YieldsList-from_flatten _ _ (λ r. r.now) option_to_list (λ x j e. yields_slot j x.now e.0 e.1)
    (YieldsList-from_slice c.args.self.now.all cc) c.flatten.ensures.front c.flatten.ensures.back c.flatten.ensures.done)
    (λ x b q k. search (rules, tests)) in
    let is = cached_found c.args.self.now.all (number_of c.args.key) in
    search rules
