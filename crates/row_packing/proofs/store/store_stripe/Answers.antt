use Rattle.std.proofs.Common.{◌≡◌, ◌<◌, ◌≤◌, Err, sym, ap, ◌∙◌, arith}
use Rattle.std.proofs.lemmas.Result.{err_from_is_err_and}
use Rattle.stripe.specs.Means.{image_on}
use Rattle.row_packing.specs.Stores.{store_on, stripe_stores}
use Rattle.row_packing.proofs.Counts.{left_none}
use Rattle.row_packing.proofs.Stores.{all_stored, goes_on, stops}
use Rattle.row_packing.proofs.store.store_stripe.Goals as goal

pub returns-in_err-store : goal.returns-in_err-store
returns-in_err-store g c =
    let image = c.args.image.now in
    let l = c.loop-server in
    let n = ap (λ r. r.servers) c.row.ensures in
    let h : l.server < image.stripe.row.servers = omega arith in
    let sent : c.unwrap-fragment.result.now ≡ image_on image l.server = grind arith in
    let stored = rw (c.key.ensures, sent) at c.store.ensures.after in
    let told = rw c.key.ensures at c.store.ensures.answer in
    let p = err_from_is_err_and c.from_residual.result c.from_residual.ensures.1 in
    let t = stops (store_on image) l.server image.stripe.row.servers h _ _ stored _ (sym told ∙ c.in_err-store.was) in
    let answer = p.1 ∙ ap Err p.2 ∙ t.0 ∙ l.invariant.answer in
    let after = t.1 ∙ l.invariant.after in
    record {
      answer = answer;
      after = after;
      whole = λ ok. after ∙ all_stored (stripe_stores image) (g.R.ServerRow.meanings c.args.boxes.now) (sym answer ∙ ok);
      coherent = λ s k. c.store.ensures.coherent s (l.invariant.coherent s k);
    }

pub loop-server-preserved : goal.loop-server-preserved
loop-server-preserved g c =
    let image = c.args.image.now in
    let l = c.loop-server in
    let n = ap (λ r. r.servers) c.row.ensures in
    let h : l.server < image.stripe.row.servers = omega arith in
    let sent : c.unwrap-fragment.result.now ≡ image_on image l.server = grind arith in
    let stored = rw (c.key.ensures, sent) at c.store.ensures.after in
    let told = rw c.key.ensures at c.store.ensures.answer in
    let t = goes_on (store_on image) l.server image.stripe.row.servers h _ _ stored _ (sym told ∙ c.in_ok-store.was) in
    record {
      answer = t.0 ∙ l.invariant.answer;
      after = t.1 ∙ l.invariant.after;
      coherent = λ s k. c.store.ensures.coherent s (l.invariant.coherent s k);
    }

pub returns-clause-whole : goal.returns-clause-whole
returns-clause-whole g c =
    let image = c.args.image.now in
    let l = c.loop-server in
    let n = ap (λ r. r.servers) c.row.ensures in
    let h : image.stripe.row.servers ≤ l.server = omega arith in
    let z = left_none l.server image.stripe.row.servers h in
    λ ok. rw z at l.invariant.after ∙ all_stored (stripe_stores image) _ (sym (rw z at l.invariant.answer))
