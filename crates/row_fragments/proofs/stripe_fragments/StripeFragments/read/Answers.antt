use Rattle.std.proofs.Common.{◌≤◌, ◌<◌, ◌+◌, ◌∷◌, Ok, true, false, length, sym, refl, ap, ◌∙◌, arith, length-set}
use Rattle.std.proofs.lemmas.Result.{err_from_is_err_and}
use Rattle.parity.specs.Xor.{xored}
use Rattle.parity.proofs.Xors.{xored_nought}
use Rattle.rack.specs.Fragments.{bytes_on, together}
use Rattle.geometry.specs.Keys.{number_of}
use Rattle.row_fragments.specs.Fetches.{lack_in}
use Rattle.row_fragments.specs.Lacking.{first_lacking}
use Rattle.row_fragments.specs.Servers.{servers_in}
use Rattle.row_fragments.proofs.Servers.{left_at, left_more, left_none}
use Rattle.row_fragments.proofs.Fragments.{summed_all, summed_more, got, lacked, refused, held_more, held_same, all_read}
use Rattle.row_fragments.proofs.stripe_fragments.StripeFragments.read.Goals as goal
use Rattle.row_fragments.proofs.stripe_fragments.StripeFragments.read.Goals.{then-member+in_ok-fragment, else-member}

pub loop-server-init : goal.loop-server-init
loop-server-init g c =
    record {
      same = refl;
      coherent = λ s h. h;
      whole = summed_all (g.R.ServerRow.meanings c.args.row.now) c.args.key (number_of c.args.key) (servers_in c.args.holders) (g.R.ServerRow.sound c.args.row.now);
      long = refl;
      places = refl;
      held = λ t h. absurd (omega arith);
    }

pub loop-server-preserved : goal.loop-server-preserved
loop-server-preserved g c =
    let was = g.R.ServerRow.meanings c.args.row.now in
    let l = c.loop-server in
    let ms = c.args.holders.members in
    let h : l.server < length ms = omega (arith, c.args.holders.long) in
    elim c.if-member.branch [
      | then-member+in_ok-fragment w ↦
          let k = number_of c.args.key in
          let piece = w.in_ok-fragment.fragment in
          let fetched = rw l.invariant.same at w.in_ok-fragment.ensures.fragment in
          let left = rw (left_more ms l.server true h w.if-member.true) at l.invariant.whole in
          let place : l.server < length l.held = omega (arith, l.invariant.places) in
          rw (w.row-is, w.together-is, w.held-is)
          record {
            same = w.fetch.ensures.after ∙ l.invariant.same;
            coherent = λ s b. w.fetch.ensures.coherent s (l.invariant.coherent s b);
            whole = rw w.xor_into.ensures (summed_more was c.args.key k l.server (left_at ms (l.server + 1)) l.together piece fetched) ∙ left;
            long = w.xor_into.array_long;
            places = length-set l.held l.server piece ∙ l.invariant.places;
            held = held_more was k ms l.server l.held l.invariant.held piece place (got _ c.args.key piece (bytes_on was k l.server) fetched).1;
          }
      | else-member w ↦
          rw (w.row-is, w.together-is, w.held-is)
          record {
            same = l.invariant.same;
            coherent = l.invariant.coherent;
            whole = rw (left_more ms l.server false h w.if-member.false) at l.invariant.whole;
            long = l.invariant.long;
            places = l.invariant.places;
            held = held_same was (number_of c.args.key) ms l.server l.held l.invariant.held w.if-member.false;
          }
    ]

pub returns-in_err-fragment : goal.returns-in_err-fragment
returns-in_err-fragment g c =
    let was = g.R.ServerRow.meanings c.args.row.now in
    let l = c.loop-server in
    let k = number_of c.args.key in
    let ms = c.args.holders.members in
    let us = servers_in c.args.holders in
    let h : l.server < length ms = omega (arith, c.args.holders.long) in
    let p = err_from_is_err_and c.from_residual.result c.from_residual.ensures.1 in
    let fetched = rw l.invariant.same at c.in_err-fragment.ensures.fragment in
    let left = rw (left_more ms l.server true h c.if-member.true) at l.invariant.whole in
    let rest = left_at ms (l.server + 1) in
    let whole = lacked was c.args.key k l.server rest _ _ (xored l.together (together was (l.server ∷ rest) k)) fetched ∙ left in
    rw (p.1, p.2)
    record {
      fragments = tt;
      lacks = refused (first_lacking was k us) c.args.key _ (together was us k) whole;
      after = c.fetch.ensures.after ∙ l.invariant.same;
      coherent = λ s b. c.fetch.ensures.coherent s (l.invariant.coherent s b);
    }

pub returns : goal.returns
returns g c =
    let was = g.R.ServerRow.meanings c.args.row.now in
    let l = c.loop-server in
    let k = number_of c.args.key in
    let ms = c.args.holders.members in
    let us = servers_in c.args.holders in
    let h : length ms ≤ l.server = omega (arith, c.args.holders.long) in
    let whole = ap Ok (sym (xored_nought l.together l.invariant.long)) ∙ (rw (left_none ms l.server h) at l.invariant.whole) in
    let all = got (first_lacking was k us) c.args.key l.together (together was us k) whole in
    record {
      fragments = all_read was k ms l.server l.held l.invariant.held l.together h all.1;
      lacks = ap (λ o. lack_in o c.args.key) (sym all.0);
      after = l.invariant.same;
      coherent = l.invariant.coherent;
    }
