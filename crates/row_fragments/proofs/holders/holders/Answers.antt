use Rattle.std.proofs.Common.{sym, ◌∙◌, arith}
use Rattle.std.proofs.lemmas.Bool.Decides.{nat_tests}
use Rattle.std.proofs.lemmas.Grind.{common_steps}
use Rattle.geometry.specs.Keys.{number_of}
use Rattle.server.specs.Meaning.{holds}
use Rattle.row.specs.Rows.{at}
use Rattle.row_fragments.specs.Servers.{servers_in}
use Rattle.row_fragments.proofs.Lacking.{none_lacks}
use Rattle.row_fragments.proofs.Servers.{numbered_filter}
use Rattle.row_fragments.proofs.holders.holders.Goals as goal
use Rattle.row_fragments.proofs.holders.holders.Goals.{then-member, else-member}

pub loop-server-preserved : goal.loop-server-preserved
loop-server-preserved g c =
    let l = c.loop-server in
    elim c.if-member.branch [
      | then-member w ↦
          let answer = rw l.invariant.same at w.holds.ensures.answer in
          rw w.row-is
          record {
            same = w.holds.ensures.after ∙ l.invariant.same;
            coherent = λ s h. w.holds.ensures.coherent s (l.invariant.coherent s h);
            marked = λ t. let a = l.invariant.marked t in grind (arith, nat_tests, common_steps);
          }
      | else-member w ↦
          rw w.row-is
          record {
            same = l.invariant.same;
            coherent = l.invariant.coherent;
            marked = λ t. let a = l.invariant.marked t in grind (arith, nat_tests, common_steps);
          }
    ]

pub returns-clause-holders : goal.returns-clause-holders
returns-clause-holders g c =
    let l = c.loop-server in
    let was = g.R.ServerRow.meanings c.args.row.now in
    let ms = c.args.servers.members in
    let ms_long = c.args.servers.long in
    numbered_filter ms l.member-items (λ s. holds (at was s) (number_of c.args.key)) (c.loop-server-test.array_long ∙ sym ms_long)
    (λ t h. let a = l.invariant.marked t in grind (arith, nat_tests))

pub returns-clause-held : goal.returns-clause-held
returns-clause-held g c =
    let was = g.R.ServerRow.meanings c.args.row.now in
    let k = number_of c.args.key in
    rw (returns-clause-holders g c) (none_lacks was k (servers_in c.args.servers))
