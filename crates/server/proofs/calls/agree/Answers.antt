use Rattle.std.proofs.Common.{◌∙◌}
use Rattle.server.proofs.Runs.{after_more, agree_more}
use Rattle.server.proofs.calls.agree.Goals as goal

pub loop-call-preserved : goal.loop-call-preserved
loop-call-preserved g c =
    let m = g.A.FragmentServer.meaning c.args.a.now in
    let n = g.B.FragmentServer.meaning c.args.b.now in
    let cs = c.args.calls.now in
    let i = c.loop-call.call-index in
    let call = c.call-item.result in
    let h = c.loop-call-test.true in
    let e = c.call-item.is in
    let inv = c.loop-call.invariant in
    let u = c.agree_on-same.ensures in (
      u.first ∙ after_more cs i call h e m _ inv.0,
      u.second ∙ after_more cs i call h e n _ inv.1,
      agree_more cs i call h e m n _ _ _ _ inv.0 inv.1 inv.2 u.answer,
      λ k. u.coherent.0 (inv.3 k),
      λ k. u.coherent.1 (inv.4 k),
    )
