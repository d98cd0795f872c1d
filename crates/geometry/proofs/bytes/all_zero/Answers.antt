use Rattle.std.proofs.Common.{◌≡◌, ◌*◌, ◌/◌, Bool, ◌&&◌, nat_eq, length, drop, sym, ap, ◌∙◌, arith, rules}
use Rattle.std.specs.List.{list_all}
use Rattle.std.specs.Simd.{first_chunks}
use Rattle.std.proofs.lemmas.Iterator.{YieldsList-from_slice}
use Rattle.std.proofs.lemmas.Iterator.Search.{all_from_yields_List}
use borrow.Author.Tests.{tests}
use Rattle.geometry.specs.Bytes.{zeros}
use Rattle.geometry.proofs.Zeros.{is_zero, zero_parts}
use Rattle.geometry.proofs.bytes.all_zero.Goals as goal

pub returns-else-all : goal.returns-else-all
returns-else-all c =
    let xs = c.args.bytes.now in
    let n = length xs / 16 in
    let e : c.all.result ≡ list_all (is_zero 16) (first_chunks 16 n xs) =
    all_from_yields_List (is_zero 16) _ _ c.all.result c.all.ensures.ran (YieldsList-from_slice (first_chunks 16 n xs) (search rules)) (λ x b q k. search (rules, tests)) in
    let p = zero_parts n xs (omega arith) in
    c.if-all.false ∙ ap (λ (b : Bool). b && zeros (drop (n * 16) xs)) (sym c.if-all.false ∙ e) ∙ p

pub returns-then-all : goal.returns-then-all
returns-then-all c =
    let xs = c.args.bytes.now in
    let n = length xs / 16 in
    let e : c.all.result ≡ list_all (is_zero 16) (first_chunks 16 n xs) =
    all_from_yields_List (is_zero 16) _ _ c.all.result c.all.ensures.ran (YieldsList-from_slice (first_chunks 16 n xs) (search rules)) (λ x b q k. search (rules, tests)) in
    let f : c.all-then-all.result ≡ zeros (drop (n * 16) xs) =
    all_from_yields_List (λ b. nat_eq b 0) _ _ c.all-then-all.result c.all-then-all.ensures.ran (YieldsList-from_slice (drop (n * 16) xs) (search rules)) (λ x b q k. search (rules, tests)) in
    f ∙ ap (λ (b : Bool). b && zeros (drop (n * 16) xs)) (sym c.if-all.true ∙ e) ∙ zero_parts n xs (omega arith)
