use Rattle.std.proofs.Common.{◌≤◌, ◌<◌, ◌+◌, ◌∷◌, Ok, true, false, length, sym, refl, ap, ◌∙◌, arith}
use Rattle.std.proofs.lemmas.Result.{err_from_is_err_and}
use Rattle.parity.specs.Xor.{xored}
use Rattle.parity.proofs.Xors.{xored_nought}
use Rattle.rack.specs.Fragments.{together}
use Rattle.geometry.specs.Keys.{number_of}
use Rattle.row_fragments.specs.Servers.{servers_in}
use Rattle.row_fragments.proofs.Servers.{left_at, left_more, left_none}
use Rattle.row_fragments.proofs.Fragments.{summed_all, summed_more, lacked}
use Rattle.row_fragments.proofs.fetch.together.Goals as goal
use Rattle.row_fragments.proofs.fetch.together.Goals.{then-member+in_ok-fetch, else-member}

pub loop-server-init : goal.loop-server-init
loop-server-init g c =
    record {
      same = refl;
      coherent = λ s h. h;
      whole = summed_all (g.R.ServerRow.meanings c.args.row.now) c.args.key (number_of c.args.key) (servers_in c.args.servers) (g.R.ServerRow.sound c.args.row.now);
      long = refl;
    }

pub loop-server-preserved : goal.loop-server-preserved
loop-server-preserved g c =
    let was = g.R.ServerRow.meanings c.args.row.now in
    let l = c.loop-server in
    let ms = c.args.servers.members in
    let h : l.server < length ms = omega (arith, c.args.servers.long) in
    elim c.if-member.branch [
      | then-member+in_ok-fetch w ↦
          let fetched = rw l.invariant.same at w.in_ok-fetch.ensures.fragment in
          let left = rw (left_more ms l.server true h w.if-member.true) at l.invariant.whole in
          rw (w.row-is, w.sum-is)
          record {
            same = w.fetch.ensures.after ∙ l.invariant.same;
            coherent = λ s b. w.fetch.ensures.coherent s (l.invariant.coherent s b);
            whole = rw w.xor_into.ensures (summed_more was c.args.key (number_of c.args.key) l.server (left_at ms (l.server + 1)) l.sum w.in_ok-fetch.field-0 fetched) ∙ left;
            long = w.xor_into.array_long;
          }
      | else-member w ↦
          rw (w.row-is, w.sum-is)
          record {
            same = l.invariant.same;
            coherent = l.invariant.coherent;
            whole = rw (left_more ms l.server false h w.if-member.false) at l.invariant.whole;
            long = l.invariant.long;
          }
    ]

pub returns-in_err-fetch : goal.returns-in_err-fetch
returns-in_err-fetch g c =
    let was = g.R.ServerRow.meanings c.args.row.now in
    let l = c.loop-server in
    let k = number_of c.args.key in
    let ms = c.args.servers.members in
    let h : l.server < length ms = omega (arith, c.args.servers.long) in
    let p = err_from_is_err_and c.from_residual.result c.from_residual.ensures.1 in
    let fetched = rw l.invariant.same at c.in_err-fetch.ensures.fragment in
    let left = rw (left_more ms l.server true h c.if-member.true) at l.invariant.whole in
    let rest = left_at ms (l.server + 1) in
    record {
      fragment = rw (p.1, p.2) (lacked was c.args.key k l.server rest _ _ (xored l.sum (together was (l.server ∷ rest) k)) fetched ∙ left);
      after = c.fetch.ensures.after ∙ l.invariant.same;
      coherent = λ s b. c.fetch.ensures.coherent s (l.invariant.coherent s b);
    }

pub returns-clause-fragment : goal.returns-clause-fragment
returns-clause-fragment g c =
    let l = c.loop-server in
    let h : length c.args.servers.members ≤ l.server = omega (arith, c.args.servers.long) in
    ap Ok (sym (xored_nought l.sum l.invariant.long)) ∙ (rw (left_none c.args.servers.members l.server h) at l.invariant.whole)
