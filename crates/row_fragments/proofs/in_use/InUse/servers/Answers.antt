use Rattle.std.proofs.Common.{◌≡◌, ◌≤◌, not, length, arith}
use Rattle.std.proofs.lemmas.Bool.Decides.{nat_tests}
use Rattle.std.proofs.lemmas.Grind.{common_steps}
use Rattle.rack.specs.Worlds.{is_out}
use Rattle.row_fragments.proofs.Servers.{numbered_below}
use Rattle.row_fragments.proofs.in_use.InUse.servers.Goals as goal

pub loop-server-preserved : goal.loop-server-preserved
loop-server-preserved c =
    let l = c.loop-server in
    let m = c.args.self.now.row.most in
    record {
      long = grind (arith, common_steps);
      marked = λ t. let a = l.invariant.marked t in grind (arith, nat_tests, common_steps);
    }

pub returns : goal.returns
returns c =
    let l = c.loop-server in
    let out = c.args.self.now.out in
    let most : c.args.self.now.row.servers ≤ length l.members = omega (arith, c.args.self.now.row.most) in
    let all : l.server ≡ c.args.self.now.row.servers = omega arith in
    numbered_below l.members c.args.self.now.row.servers (λ s. not (is_out out s)) most (rw all at l.invariant.marked)
