use Rattle.std.proofs.Common.{◌≡◌, sym, ◌∙◌, arith}
use Rattle.row_fragments.specs.Servers.{one_in}
use Rattle.row_fragments.proofs.Servers.{numbered_is, rises-one_in, among-one_in}
use Rattle.row_fragments.proofs.server_set.ServerSet.one.Goals as goal

pub returns : goal.returns
returns c =
    let l = c.loop-number in
    let all : l.number ≡ 8 = omega arith in
    numbered_is l.member-items (one_in c.args.server) (rises-one_in c.args.server) (λ k. (rw all at l.invariant k) ∙ sym (among-one_in c.args.server k))
