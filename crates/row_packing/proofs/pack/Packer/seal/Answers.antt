use Rattle.std.proofs.Common.{length, ap, ◌∙◌, rules}
use Rattle.geometry.specs.Keys.{key_number}
use Rattle.open_stripe.specs.Means.{open_of}
use Rattle.row_packing.proofs.Packers.{image_of, sealed_some}
use Rattle.row_packing.proofs.pack.Packer.seal.Goals as goal

pub returns-clause-sealed : goal.returns-clause-sealed
returns-clause-sealed g c =
    let p = c.args.self.now in
    let number = rw c.log.ensures at c.in_ok-stripe.ensures.key in
    let row = rw c.log.ensures at c.in_ok-stripe.ensures.row in
    let image = c.new-image.ensures in
    sealed_some (open_of p.current).filled p _ _ _ (λ e. c.if-filled-eq0.false (c.filled.ensures ∙ ap length c.buffer.ensures.slots ∙ e))
    (record {
      image = c.new-image.result;
      made = image_of p.row (open_of p.current).filled (key_number 1 p.stripes) c.new-image.result c.in_ok-stripe.stripe row number image.row image.key (rw c.buffer-2.ensures.slots at image.each);
      stored = c.store_stripe.ensures.whole c.in_ok-store_stripe.was;
      stripes = search rules;
      version = search rules;
      row = search rules;
      current = c.new-self.ensures;
    })
