use Rattle.std.proofs.Common.{◌≡◌, ℕ, ◌+◌, ◌*◌, ◌<◌, ◌≤◌, List, [], length, take, get_or, is_some, Option, sym, subst, ap, ◌∙◌, arith, rules}
use Rattle.std.proofs.lemmas.List.{length-take-le}
use borrow.Author.Tests.{tests}
use Rattle.ordered.specs.Maps.{has}
use Rattle.server.specs.Meaning.{Piece, piece_key}
use Rattle.log_server.specs.Records.{record_length, record_key, piece_in}
use Rattle.log_server.specs.Area.{pieces_in}
use Rattle.log_server.specs.Walks.{place_of}
use Rattle.log_server.proofs.Cuts.{pieces_before, records_next}
use Rattle.log_server.proofs.Pieces.{IsAbove, IsAbove-same, IsAbove-least, apart_next, apart_fails}
use Rattle.log_server.proofs.Places.{has_place}
use Rattle.log_server.proofs.apart.apart_upwards.Goals as goal
use Rattle.log_server.proofs.apart.apart_upwards.Goals.{then-is_none_or, else-is_none_or+else-is_some}

-- whether one of the pieces before has the key
has_before : (xs : List ℕ) (i key : ℕ) (o : Option ℕ) → o ≡ place_of (pieces_in (take (record_length * i) xs)) key → record_length * i ≤ length xs
    → has piece_key (take i (pieces_in xs)) key ≡ is_some o
has_before xs i key o e l =
    has_place (take i (pieces_in xs)) key ∙ ap (λ (ps : List Piece). is_some (place_of ps key)) (sym (pieces_before i xs l)) ∙ ap is_some (sym e)

pub loop-i-preserved : goal.loop-i-preserved
loop-i-preserved c =
    let xs = c.args.records.now in
    let i : ℕ = c.loop-i.i in
    let rs = c.records_in-record-items.result.now in
    let key : ℕ = c.key_number-key.result in
    let t = records_next xs rs i c.records_in-record-items.ensures (omega arith) in
    let k : key ≡ record_key (get_or rs i []) = c.key_number-key.ensures in
    elim c.if-is_none_or.branch [
      | then-is_none_or w ↦
          let m = λ (n : ℕ). IsAbove-same c.loop-i.greatest c.is_none_or.result key n (search (rules, tests)) w.if-is_none_or.true in
          apart_next (take i (pieces_in xs)) _ (piece_in (get_or rs i [])) c.loop-i.greatest c.if-is_none_or.greatest t.1
          c.loop-i.invariant.0 c.loop-i.invariant.1 (c.loop-i.invariant.1 _ (m _ (omega arith))) (λ n l. let u : key < n = subst (λ (f : Option ℕ). IsAbove f n) w.greatest-is l in (m n (omega arith), omega arith))
      | else-is_none_or+else-is_some w ↦
          let h = ap (has piece_key (take i (pieces_in xs))) (sym k) ∙ has_before xs i key w.find.result w.find.ensures t.0 in
          let m = λ (n : ℕ). IsAbove-least c.loop-i.greatest c.is_none_or.result key n (search (rules, tests)) w.if-is_none_or.false in
          apart_next (take i (pieces_in xs)) _ (piece_in (get_or rs i [])) c.loop-i.greatest c.if-is_none_or.greatest t.1
          c.loop-i.invariant.0 c.loop-i.invariant.1 (h ∙ sym w.is_some.ensures ∙ w.if-is_some.false) (λ n l. let u : IsAbove c.loop-i.greatest n = subst (λ (f : Option ℕ). IsAbove f n) w.greatest-is l in let q = m n u in (u, omega arith))
    ]

pub slice_bounds-find-end : goal.slice_bounds-find-end
slice_bounds-find-end c =
    let xs = c.args.records.now in
    let t = records_next xs c.records_in-record-items.result.now c.loop-i.i c.records_in-record-items.ensures (omega arith) in
    sym (length-take-le (record_length * c.loop-i.i) xs t.0)

pub returns-then-is_some : goal.returns-then-is_some
returns-then-is_some c =
    let xs = c.args.records.now in
    let i : ℕ = c.loop-i.i in
    let rs = c.records_in-record-items.result.now in
    let key : ℕ = c.key_number-key.result in
    let t = records_next xs rs i c.records_in-record-items.ensures (omega arith) in
    let h = ap (has piece_key (take i (pieces_in xs))) (sym c.key_number-key.ensures) ∙ has_before xs i key c.find.result c.find.ensures t.0 in
    apart_fails (i + 1) (piece_in (get_or rs i [])) (take i (pieces_in xs)) (pieces_in xs) t.1 (h ∙ sym c.is_some.ensures ∙ c.if-is_some.true)
