use Rattle.std.proofs.Common.{◌≡◌, take, Decides}
use Rattle.server.specs.Calls.{answers_to, after_calls}
use Rattle.server.proofs.calls.agree.Given as goal

abbrev pub invariant-loop-call : goal.invariant-loop-call
invariant-loop-call g l =
    let m = g.A.FragmentServer.meaning l.initial.a in
    let n = g.B.FragmentServer.meaning l.initial.b in
    let done = take l.call-index l.calls in
    (g.A.FragmentServer.meaning l.a ≡ after_calls m done)
    × (g.B.FragmentServer.meaning l.b ≡ after_calls n done)
    × Decides l.same (answers_to m done ≡ answers_to n done)
    × (g.A.FragmentServer.coherent l.initial.a → g.A.FragmentServer.coherent l.a)
    × (g.B.FragmentServer.coherent l.initial.b → g.B.FragmentServer.coherent l.b)
