use Rattle.std.proofs.Common.{Ok, Err, sym, ap, ◌∙◌, rules}
use Rattle.std.proofs.lemmas.List.{length-map}
use Rattle.std.proofs.lemmas.Result.{err_from_is_err_and}
use Rattle.rack.specs.Entries.{entry_of}
use Rattle.ordered.specs.Tables.{items}
use Rattle.manager.specs.Tables.{table_of}
use Rattle.row_packing.proofs.Counts.{left_none}
use Rattle.row_packing.proofs.Tables.{spent, taken_here, goes_on, stops}
use Rattle.row_packing.proofs.index.index.Goals as goal

pub returns-in_err-stripe : goal.returns-in_err-stripe
returns-in_err-stripe g c =
    let was = g.R.ServerRow.meanings c.args.boxes.now in
    let l = c.loop-number in
    let log = c.args.log in
    let n = log.row.servers in
    let t = table_of l.table in
    let p = err_from_is_err_and c.from_residual.result c.from_residual.ensures.1 in
    let s = spent was n c.args.missing log.client l.number t c.in_err-stripe.ensures.spent.1 in
    let u = stops was n c.args.missing log.client l.number log.stripes c.loop-number-test.true t t _ s.0 s.1 in
    record {
      answer = p.1 ∙ ap Err (p.2 ∙ c.in_err-stripe.ensures.spent.0) ∙ u.0 ∙ l.invariant.answer;
      table = u.1 ∙ l.invariant.after;
      memory = l.invariant.memory;
      after = l.invariant.same;
      coherent = l.invariant.coherent;
    }

pub returns-in_err-take_stripe : goal.returns-in_err-take_stripe
returns-in_err-take_stripe g c =
    let was = g.R.ServerRow.meanings c.args.boxes.now in
    let l = c.loop-number in
    let log = c.args.log in
    let n = log.row.servers in
    let p = err_from_is_err_and c.from_residual-in_err-take_stripe.result c.from_residual-in_err-take_stripe.ensures.1 in
    let key = c.in_ok-stripe.ensures.key in
    let here = taken_here was n c.args.missing log.client l.number (sym c.in_ok-stripe.ensures.known) in
    let answer = rw (l.invariant.same, c.in_ok-stripe.ensures.row, key) at c.in_err-take_stripe.ensures.answer in
    let table = rw (l.invariant.same, c.in_ok-stripe.ensures.row, key) at c.in_err-take_stripe.ensures.table in
    let u = stops was n c.args.missing log.client l.number log.stripes c.loop-number-test.true (table_of l.table) (table_of c.take_stripe.new.table) _ (rw here answer) (rw here table) in
    record {
      answer = p.1 ∙ ap Err p.2 ∙ u.0 ∙ l.invariant.answer;
      table = u.1 ∙ l.invariant.after;
      memory = search rules;
      after = c.take_stripe.ensures.after ∙ l.invariant.same;
      coherent = λ s b. c.take_stripe.ensures.coherent s (l.invariant.coherent s b);
    }

pub loop-number-preserved : goal.loop-number-preserved
loop-number-preserved g c =
    let was = g.R.ServerRow.meanings c.args.boxes.now in
    let l = c.loop-number in
    let log = c.args.log in
    let n = log.row.servers in
    let key = c.in_ok-stripe.ensures.key in
    let here = taken_here was n c.args.missing log.client l.number (sym c.in_ok-stripe.ensures.known) in
    let answer = rw (l.invariant.same, c.in_ok-stripe.ensures.row, key) at c.in_ok-take_stripe.ensures.answer in
    let table = rw (l.invariant.same, c.in_ok-stripe.ensures.row, key) at c.in_ok-take_stripe.ensures.table in
    let u = goes_on was n c.args.missing log.client l.number log.stripes c.loop-number-test.true (table_of l.table) (table_of c.take_stripe.new.table) (rw here answer) (rw here table) in
    record {
      same = c.take_stripe.ensures.after ∙ l.invariant.same;
      coherent = λ s b. c.take_stripe.ensures.coherent s (l.invariant.coherent s b);
      memory = search rules;
      answer = u.0 ∙ l.invariant.answer;
      after = u.1 ∙ l.invariant.after;
    }

pub returns : goal.returns
returns g c =
    let l = c.loop-number in
    let none = left_none l.number c.args.log.stripes c.loop-number-test.false in
    record {
      answer = ap (λ m. Ok m) (c.count.ensures.items ∙ sym (length-map (items l.table) entry_of)) ∙ (rw none at l.invariant.answer);
      table = rw none at l.invariant.after;
      memory = l.invariant.memory;
      after = l.invariant.same;
      coherent = l.invariant.coherent;
    }
