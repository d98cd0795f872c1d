use Rattle.std.proofs.Common.{◌≡◌, min, refl, ◌∙◌, rules, tests}
use Rattle.std.proofs.lemmas.Iterator.{YieldsList-from_slice}
use Rattle.std.proofs.lemmas.Iterator.Consumers.{fold_from_yields_List}
use Rattle.workshop.specs.Lines.{read_on}
use Rattle.workshop.proofs.Digits.{more, kept}
use Rattle.workshop.proofs.decimal.number.Goals as goal

pub returns : goal.returns
returns c =
    let ds = c.args.digits.now in
    let e : c.fold-number.result ≡ min (read_on 0 ds) 65536 =
    fold_from_yields_List _ more 0 _ c.fold-number.ensures.ran (YieldsList-from_slice ds (search rules)) (λ a x b q k. search (rules, tests)) ∙ kept ds 0 0 refl in
    search rules
