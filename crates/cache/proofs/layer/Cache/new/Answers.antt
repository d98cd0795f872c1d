use Rattle.std.proofs.Common.{ap, ◌∙◌}
use Rattle.std.proofs.lemmas.List.{map-id}
use Rattle.server.specs.Meaning.{holding}
use Rattle.cache.specs.Overlay.{overlaid}
use Rattle.cache.proofs.layer.Cache.new.Goals as goal

pub returns-clause-meaning : goal.returns-clause-meaning
returns-clause-meaning g c =
    let m = g.S.FragmentServer.meaning c.args.below in
    ap (λ ss. overlaid ss m) c.new.ensures.0 ∙ ap (holding m) (map-id m.held)
