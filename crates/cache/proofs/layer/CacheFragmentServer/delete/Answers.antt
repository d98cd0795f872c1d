use Rattle.std.proofs.Common.{◌≡◌, cond, is_ok, rules}
use Rattle.std.proofs.lemmas.Result.{err_from_is_err_and}
use Rattle.geometry.specs.Keys.{number_of}
use Rattle.cache.specs.Slots.{forgotten}
use Rattle.cache.proofs.Calls.{deleted}
use Rattle.cache.proofs.layer.CacheFragmentServer.delete.Goals as goal

pub returns-in_err-delete : goal.returns-in_err-delete
returns-in_err-delete g c =
    let below = c.args.self.now.below in
    let ss = c.args.self.now.slots.all in
    let k = number_of c.args.key in
    let r = c.from_residual.result in
    let p = err_from_is_err_and r c.from_residual.ensures.1 in
    let e = c.delete.ensures in
    let slots : ss ≡ cond (is_ok r) (forgotten k ss) ss = search rules in
    let s = deleted (g.S.FragmentServer.meaning below) (g.S.FragmentServer.sound below) ss ss _ k r slots e.coherent (search rules) e.after in
    record { answer = s.0; after = s.1; coherent = s.2; below = e.after; slots = (slots, search rules) }

pub returns : goal.returns
returns g c =
    let below = c.args.self.now.below in
    let ss = c.args.self.now.slots.all in
    let e = c.in_ok-delete.ensures in
    let slots = c.forget.ensures.all in
    let s = deleted (g.S.FragmentServer.meaning below) (g.S.FragmentServer.sound below) ss _ _ _ _ slots e.coherent e.answer e.after in
    record { answer = s.0; after = s.1; coherent = s.2; below = e.after; slots = (slots, c.forget.ensures.turn) }
