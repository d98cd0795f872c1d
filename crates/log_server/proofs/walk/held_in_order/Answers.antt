use Rattle.std.proofs.Common.{◌≡◌, ℕ, ◌*◌, Bool, true, false, cond, ◌&&◌, length, take, drop, Some, None, sym, refl, ap, ◌∙◌}
use Rattle.std.specs.Bool.{then_some}
use Rattle.geometry.specs.Bytes.{zeros}
use Rattle.log_server.specs.Records.{record_length, records_in}
use Rattle.log_server.specs.Area.{pieces_in, front, apart}
use Rattle.log_server.proofs.Areas.{order_is}
use Rattle.log_server.proofs.walk.held_in_order.Goals as goal
use Rattle.log_server.proofs.walk.held_in_order.Goals.{then-all_zero, else-all_zero}

-- `x && y`, where y was asked and where it was not
asked : (x y t : Bool) → x ≡ true → t ≡ y → t ≡ (x && y)
asked x y t e q = cc

not_asked : (x y t : Bool) → x ≡ false → t ≡ false → t ≡ (x && y)
not_asked x y t e q = cc

held_if : (t : Bool) (h n : ℕ) → h ≡ n → then_some t h ≡ cond t (Some n) None
held_if true h n e = ap Some e
held_if false h n e = refl

pub returns : goal.returns
returns c =
    let xs = c.args.records.now in
    let h : ℕ = c.count_held-held.result in
    let z : Bool = zeros (drop (record_length * h) xs) in
    let a : Bool = apart (pieces_in (take (record_length * h) xs)) in
    let e : c.all_zero.result ≡ z = c.all_zero.ensures ∙ ap zeros c.split_at.ensures.back in
    let b : c.if-all_zero.then_some ≡ (z && a) =
    elim c.if-all_zero.branch [
      | then-all_zero w ↦ asked z a c.if-all_zero.then_some (sym e ∙ w.if-all_zero.true) (w.then_some-is ∙ w.keys_apart.ensures ∙ ap (λ xs. apart (pieces_in xs)) c.split_at.ensures.front)
      | else-all_zero w ↦ not_asked z a c.if-all_zero.then_some (sym e ∙ w.if-all_zero.false) (w.then_some-is ∙ w.if-all_zero.false)
    ] in
    c.then_some.ensures ∙ held_if c.if-all_zero.then_some h (length (front (records_in xs))) c.count_held-held.ensures.is
    ∙ ap (λ (t : Bool). cond t (Some (length (front (records_in xs)))) None) (b ∙ sym (order_is h xs c.requires c.count_held-held.ensures.is))
