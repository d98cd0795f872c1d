use Rattle.std.proofs.Common.{ap, ◌∙◌}
use Rattle.geometry.specs.Keys.{number_of}
use Rattle.rack.specs.Lists.{is_among}
use Rattle.open_stripe.proofs.Noted.{among_noted}
use Rattle.open_stripe.proofs.sources.Sources.has.Goals as goal

pub returns : goal.returns
returns c =
    c.contains.ensures.value ∙ among_noted c.keys.result.now c.args.key ∙ ap (λ ks. is_among ks (number_of c.args.key)) c.keys.ensures
