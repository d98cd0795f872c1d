use Rattle.std.proofs.Common.{◌≤◌, ◌<◌, true, false, length, ◌∙◌, arith}
use Rattle.row_fragments.proofs.Lacking.{torn_is_first}
use Rattle.row_fragments.proofs.Servers.{left_more, left_none}
use Rattle.row_fragments.proofs.holders.first_lacking.Goals as goal
use Rattle.row_fragments.proofs.holders.first_lacking.Goals.{else-member-via-then-member+else-not-holds, else-member-via-else-member}

pub loop-server-preserved : goal.loop-server-preserved
loop-server-preserved g c =
    let l = c.loop-server in
    let ms = c.args.servers.members in
    let h : l.server < length ms = omega (arith, c.args.servers.long) in
    elim c.else-member.branch [
      | else-member-via-then-member+else-not-holds w ↦
          let held = rw l.invariant.same at w.holds.ensures.answer in
          rw w.row-is
          record {
            same = w.holds.ensures.after ∙ l.invariant.same;
            coherent = λ s b. w.holds.ensures.coherent s (l.invariant.coherent s b);
            first = rw (left_more ms l.server true h w.if-member.true, ← held, w.if-not-holds.false) at l.invariant.first;
          }
      | else-member-via-else-member w ↦
          rw w.row-is
          record {
            same = l.invariant.same;
            coherent = l.invariant.coherent;
            first = rw (left_more ms l.server false h w.if-member.false) at l.invariant.first;
          }
    ]

pub returns-then-not-holds-clause-server : goal.returns-then-not-holds-clause-server
returns-then-not-holds-clause-server g c =
    let l = c.loop-server in
    let ms = c.args.servers.members in
    let h : l.server < length ms = omega (arith, c.args.servers.long) in
    let lacks = rw l.invariant.same at c.holds.ensures.answer in
    (rw (left_more ms l.server true h c.if-member.true, ← lacks, c.if-not-holds.true) at l.invariant.first)

pub returns-clause-server : goal.returns-clause-server
returns-clause-server g c =
    let l = c.loop-server in
    let h : length c.args.servers.members ≤ l.server = omega (arith, c.args.servers.long) in
    rw (left_none c.args.servers.members l.server h) at l.invariant.first

pub returns-then-not-holds-clause-torn : goal.returns-then-not-holds-clause-torn
returns-then-not-holds-clause-torn g c = torn_is_first

pub returns-clause-torn : goal.returns-clause-torn
returns-clause-torn g c = torn_is_first
