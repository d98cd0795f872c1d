use Rattle.std.proofs.Common.{◌≤◌, ◌<◌, true, false, length, sym, ◌∙◌, arith}
use Rattle.geometry.specs.Keys.{number_of}
use Rattle.rack.proofs.Orders.{lower_assoc, lower_none}
use Rattle.row_fragments.specs.Servers.{servers_in}
use Rattle.row_fragments.proofs.Servers.{left_more, left_none}
use Rattle.row_fragments.proofs.KeysHeld.{least-keys_held}
use Rattle.row_fragments.proofs.keys.next_key.Goals as goal
use Rattle.row_fragments.proofs.keys.next_key.Goals.{then-member, else-member}

pub loop-server-preserved : goal.loop-server-preserved
loop-server-preserved g c =
    let l = c.loop-server in
    let ms = c.args.servers.members in
    let h : l.server < length ms = omega (arith, c.args.servers.long) in
    elim c.if-member.branch [
      | then-member w ↦
          let answer = rw l.invariant.same at w.from.ensures.answer in
          let left = rw (left_more ms l.server true h w.if-member.true) at l.invariant.whole in
          rw (w.row-is, w.least-is)
          record {
            same = w.from.ensures.after ∙ l.invariant.same;
            coherent = λ s b. w.from.ensures.coherent s (l.invariant.coherent s b);
            whole = rw (w.earlier-least.ensures, answer, lower_assoc) left;
          }
      | else-member w ↦
          rw (w.row-is, w.least-is)
          record {
            same = l.invariant.same;
            coherent = l.invariant.coherent;
            whole = rw (left_more ms l.server false h w.if-member.false) at l.invariant.whole;
          }
    ]

pub returns-clause-key : goal.returns-clause-key
returns-clause-key g c =
    let l = c.loop-server in
    let h : length c.args.servers.members ≤ l.server = omega (arith, c.args.servers.long) in
    let whole = rw (left_none c.args.servers.members l.server h, lower_none) at l.invariant.whole in
    whole ∙ sym (least-keys_held (g.R.ServerRow.meanings c.args.row.now) (servers_in c.args.servers) (number_of c.args.from) (g.R.ServerRow.sound c.args.row.now))
