use Rattle.std.proofs.Common.{◌≡◌, cond, is_ok, rules}
use Rattle.std.proofs.lemmas.Result.{err_from_is_err_and}
use Rattle.geometry.specs.Keys.{number_of}
use Rattle.cache.specs.Slots.{forgotten}
use Rattle.cache.proofs.Calls.{stored}
use Rattle.cache.proofs.layer.CacheFragmentServer.store.Goals as goal

pub returns-in_err-store : goal.returns-in_err-store
returns-in_err-store g c =
    let below = c.args.self.now.below in
    let ss = c.args.self.now.slots.all in
    let k = number_of c.args.key in
    let r = c.from_residual.result in
    let p = err_from_is_err_and r c.from_residual.ensures.1 in
    let e = c.store.ensures in
    let slots : ss ≡ cond (is_ok r) (forgotten k ss) ss = search rules in
    let s = stored (g.S.FragmentServer.meaning below) (g.S.FragmentServer.sound below) ss ss _ k r slots e.coherent _ (search rules) e.after in
    record { answer = s.0; after = s.1; coherent = s.2; below = e.after; slots = (slots, search rules) }

pub returns : goal.returns
returns g c =
    let below = c.args.self.now.below in
    let ss = c.args.self.now.slots.all in
    let e = c.in_ok-store.ensures in
    let slots = c.forget.ensures.all in
    let s = stored (g.S.FragmentServer.meaning below) (g.S.FragmentServer.sound below) ss _ _ _ _ slots e.coherent _ e.answer e.after in
    record { answer = s.0; after = s.1; coherent = s.2; below = e.after; slots = (slots, c.forget.ensures.turn) }
