use Rattle.std.proofs.Common.{◌-◌, ◌<◌, ◌≤◌, Err, length, sym, refl, ap, ◌∙◌, arith}
use Rattle.std.proofs.lemmas.Result.{err_from_is_err_and}
use Rattle.std.proofs.lemmas.List.{length-take, length-drop}
use Rattle.geometry.specs.Keys.{number_of}
use Rattle.row_packing.proofs.Tables.{read_none, read_more, read_stops, read_all}
use Rattle.row_packing.proofs.index.stripe_deltas.Goals as goal

pub loop-index-init : goal.loop-index-init
loop-index-init g c =
    record {
      same = refl;
      coherent = λ s h. h;
      read = read_none (g.R.ServerRow.meanings c.args.boxes.now) c.args.stripe.row.servers c.args.missing (number_of c.args.stripe.key);
    }

pub returns-in_err-slots : goal.returns-in_err-slots
returns-in_err-slots g c =
    let was = g.R.ServerRow.meanings c.args.boxes.now in
    let l = c.loop-index in
    let n = c.args.stripe.row.servers in
    let k = number_of c.args.stripe.key in
    let h : l.index < n - 1 = omega arith in
    let p = err_from_is_err_and c.from_residual.result c.from_residual.ensures.1 in
    let read = rw l.invariant.same at c.in_err-slots.ensures.deltas in
    record {
      deltas = p.1 ∙ ap Err p.2 ∙ read_stops was n c.args.missing k l.index l.deltas l.invariant.read _ h read;
      after = c.fragment_deltas.ensures.after ∙ l.invariant.same;
      coherent = λ s b. c.fragment_deltas.ensures.coherent s (l.invariant.coherent s b);
    }

pub loop-index-preserved : goal.loop-index-preserved
loop-index-preserved g c =
    let was = g.R.ServerRow.meanings c.args.boxes.now in
    let l = c.loop-index in
    let n = c.args.stripe.row.servers in
    let k = number_of c.args.stripe.key in
    let h : l.index < n - 1 = omega arith in
    let read = rw l.invariant.same at c.in_ok-slots.ensures.deltas in
    record {
      same = c.fragment_deltas.ensures.after ∙ l.invariant.same;
      coherent = λ s b. c.fragment_deltas.ensures.coherent s (l.invariant.coherent s b);
      read = rw (c.copy_from_slice.ensures.after) (read_more was n c.args.missing k l.index l.deltas l.invariant.read c.in_ok-slots.slots _ _ h (ap length (sym c.copy_from_slice.ensures.after) ∙ c.copy_from_slice.ensures.len ∙ simp (length-take, length-drop) (omega (arith, c.from-at.array_long))) (omega arith) (omega arith) read);
    }

pub returns : goal.returns
returns g c =
    let was = g.R.ServerRow.meanings c.args.boxes.now in
    let l = c.loop-index in
    let n = c.args.stripe.row.servers in
    let k = number_of c.args.stripe.key in
    let h : n - 1 ≤ l.index = omega arith in
    record {
      deltas = read_all was n c.args.missing k l.index l.deltas l.invariant.read h;
      after = l.invariant.same;
      coherent = l.invariant.coherent;
    }
