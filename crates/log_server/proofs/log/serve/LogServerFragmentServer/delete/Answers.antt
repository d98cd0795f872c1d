use Rattle.std.proofs.Common.{◌≡◌, ℕ, List, length, Some, sym, refl, ap, ◌∙◌, arith, MutBor}
use Rattle.std.specs.Result.{result_ok}
use Rattle.geometry.specs.Keys.{number_of}
use Rattle.log_server.specs.Area.{area_pieces, area_places, area_meaning}
use Rattle.log_server.specs.Calls.{without_record, deleted_at, deleted}
use Rattle.log_server.specs.Walks.{place_of}
use Rattle.log_server.proofs.Areas.{written}
use Rattle.log_server.proofs.Meanings.{held_is, absent_is, delete_counts, delete_means}
use Rattle.log_server.proofs.log.serve.LogServerFragmentServer.delete.Goals as goal

pub returns-in_err-i : goal.returns-in_err-i
returns-in_err-i c =
    let xs = c.args.self.now.bytes.now in
    let k = number_of c.args.key in
    let a = absent_is xs k c.place.result c.in_err-i.field-0.0 c.from_residual.result c.place.ensures.is (sym c.ok_or.ensures.value ∙ c.in_err-i.was) c.from_residual.ensures.1 in
    let b : xs ≡ deleted xs k = sym (ap (deleted_at xs) a.0) in
    record { answer = a.1; after = ap area_meaning b ∙ delete_means xs k; area = record { bytes = b; same = refl } }

pub invariant_of-self : goal.invariant_of-self
invariant_of-self c =
    let s = c.args.self.now in
    let xs = s.bytes.now in
    let a = delete_counts xs (number_of c.args.key) c.in_ok-i.i (sym c.place.ensures.is ∙ c.ok_or.ensures.ok_part ∙ ap result_ok c.in_ok-i.was) in
    let b = written (λ t h. without_record t c.in_ok-i.i h) c.take-area.result s.bytes c.close_gap.new.area s.held c.take-area.ensures.value s.count c.close_gap.ensures in
    let n = ap (λ (t : List ℕ). length (area_pieces t)) b in
    record { places = s.places ∙ sym (ap area_places b ∙ a.0); count = omega (arith, a.1) }

pub returns : goal.returns
returns c =
    let s = c.args.self.now in
    let xs = s.bytes.now in
    let k = number_of c.args.key in
    let i : ℕ = c.in_ok-i.i in
    let e : place_of (area_pieces xs) k ≡ Some i = sym c.place.ensures.is ∙ c.ok_or.ensures.ok_part ∙ ap result_ok c.in_ok-i.was in
    let b = written (λ t h. without_record t i h) c.take-area.result s.bytes c.close_gap.new.area s.held c.take-area.ensures.value s.count c.close_gap.ensures ∙ sym (ap (deleted_at xs) e) in
    record {
      answer = sym (held_is xs k (Some i) e);
      after = ap area_meaning b ∙ delete_means xs k;
      area = record { bytes = b; same = ap (λ (b : MutBor (List ℕ)). b.ghost_name) c.take-area.ensures.value };
    }
