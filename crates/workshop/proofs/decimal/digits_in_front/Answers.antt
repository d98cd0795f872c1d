use Rattle.std.proofs.Common.{◌≡◌, ◌∙◌, sym, refl, true, false, arith, rules, tests}
use Rattle.std.specs.Char.{is_ascii_digit}
use Rattle.std.proofs.lemmas.Iterator.{IsFirst-from_position, YieldsList-from_slice, index_from_first}
use Rattle.workshop.specs.Lines.{digit_count}
use Rattle.workshop.proofs.decimal.digits_in_front.Goals as goal

pub returns : goal.returns
returns c =
    let first = IsFirst-from_position _ _ c.position.result (λ b. is_ascii_digit b ≡ false) (λ b. is_ascii_digit b ≡ true) c.position.ensures.ran (YieldsList-from_slice c.args.text.now cc)
    (λ x q k. search (rules, tests)) (λ x q k. search (rules, tests)) in
    c.unwrap_or.ensures ∙ sym (index_from_first digit_count (λ b. is_ascii_digit b ≡ false) (λ b. is_ascii_digit b ≡ true) refl (λ x xs h. rw h) (λ x xs h. rw h (omega arith)) c.args.text.now _ first)
