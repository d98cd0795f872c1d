use Rattle.std.proofs.Common.{[], ◌∷◌, ◌∙◌, rules}
use Rattle.std.proofs.lemmas.Iterator.{YieldsList-from_slice}
use Rattle.std.proofs.lemmas.Iterator.Search.{any_from_yields_List}
use Rattle.rack.specs.Lists.{is_among}
use Rattle.manager.specs.Taking.{blocks_in}
use Rattle.manager.proofs.Counting.{any_among}
use Rattle.manager.proofs.fresh.is_among.Goals as goal

pub returns : goal.returns
returns c =
    let ds = c.args.slots.now in
    let b = c.args.block in
    any_from_yields_List (λ s. is_among (blocks_in (s ∷ [])) b) _ _ _ c.any.ensures.ran (YieldsList-from_slice ds (cc)) (λ x r q k. search rules) ∙ any_among ds b
