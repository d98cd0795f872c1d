use Rattle.std.proofs.Common.{◌≡◌, ℕ, ◌+◌, ◌-◌, ◌<◌, [], ◌∷◌, drop, get_or, Some, sym, ap, ◌∙◌, arith, rules}
use borrow.Author.Tests.{tests}
use Rattle.ordered.specs.Maps.{has}
use Rattle.server.specs.Meaning.{piece_key}
use Rattle.log_server.specs.Records.{record_key, piece_in}
use Rattle.log_server.specs.Area.{pieces_in}
use Rattle.log_server.proofs.Cuts.{records_before}
use Rattle.log_server.proofs.Pieces.{IsBelow-same, IsBelow-greatest, apart_before, apart_fails_before}
use Rattle.log_server.proofs.apart.keys_apart.Goals as goal

pub comes_again-requires : goal.comes_again-requires
comes_again-requires c = (records_before c.args.records.now c.records_in-all.result.now (c.loop-i.i - 1) c.records_in-all.ensures (omega arith)).0

pub loop-i-preserved-then-is_none_or : goal.loop-i-preserved-then-is_none_or
loop-i-preserved-then-is_none_or c =
    let xs = c.args.records.now in
    let i : ℕ = c.loop-i.i - 1 in
    let rs = c.records_in-all.result.now in
    let key : ℕ = c.key_number-key.result in
    let t = records_before xs rs i c.records_in-all.ensures (omega arith) in
    let n : i + 1 ≡ c.loop-i.i = omega arith in
    let k : key ≡ record_key (get_or rs i []) = c.key_number-key.ensures in
    let m = λ (n : ℕ). IsBelow-same c.loop-i.least c.is_none_or.result key n (search (rules, tests)) c.if-is_none_or.true in
    apart_before (drop c.loop-i.i (pieces_in xs)) _ (piece_in (get_or rs i [])) c.loop-i.least (Some key) (t.1 ∙ ap (λ (j : ℕ). piece_in (get_or rs i []) ∷ drop j (pieces_in xs)) n)
    c.loop-i.invariant.0 c.loop-i.invariant.1 (c.loop-i.invariant.1 _ (m _ (omega arith))) (λ n l. let u : n < key = l in (m n (omega arith), omega arith))

pub loop-i-preserved : goal.loop-i-preserved
loop-i-preserved c =
    let xs = c.args.records.now in
    let i : ℕ = c.loop-i.i - 1 in
    let rs = c.records_in-all.result.now in
    let key : ℕ = c.key_number-key.result in
    let t = records_before xs rs i c.records_in-all.ensures (omega arith) in
    let n : i + 1 ≡ c.loop-i.i = omega arith in
    let k : key ≡ record_key (get_or rs i []) = c.key_number-key.ensures in
    let h = ap (has piece_key (drop c.loop-i.i (pieces_in xs))) (sym k) ∙ ap (λ (j : ℕ). has piece_key (drop j (pieces_in xs)) key) (sym n) in
    let m = λ (n : ℕ). IsBelow-greatest c.loop-i.least c.is_none_or.result key n (search (rules, tests)) c.if-is_none_or.false in
    apart_before (drop c.loop-i.i (pieces_in xs)) _ (piece_in (get_or rs i [])) c.loop-i.least c.loop-i.least (t.1 ∙ ap (λ (j : ℕ). piece_in (get_or rs i []) ∷ drop j (pieces_in xs)) n)
    c.loop-i.invariant.0 c.loop-i.invariant.1 (h ∙ sym c.comes_again.ensures ∙ c.if-comes_again.false) (λ n u. let q = m n u in (u, omega arith))

pub returns-then-comes_again : goal.returns-then-comes_again
returns-then-comes_again c =
    let xs = c.args.records.now in
    let i : ℕ = c.loop-i.i - 1 in
    let rs = c.records_in-all.result.now in
    let t = records_before xs rs i c.records_in-all.ensures (omega arith) in
    let h = ap (has piece_key (drop (i + 1) (pieces_in xs))) (sym c.key_number-key.ensures) in
    apart_fails_before i (piece_in (get_or rs i [])) (drop (i + 1) (pieces_in xs)) (pieces_in xs) t.1 (h ∙ sym c.comes_again.ensures ∙ c.if-comes_again.true)
