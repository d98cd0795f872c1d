use Rattle.std.proofs.Common.{◌≡◌, ℕ, ◌<◌, false, eqb, List, length, Ok, Err, sym, ap, ◌∙◌, arith, MutBor}
use borrow.Author.Tests.{eqb-false}
use Rattle.ordered.specs.declared.fault.MapFault.TheVariants.{Held, Full}
use Rattle.geometry.specs.Keys.{number_of}
use Rattle.server.specs.Meaning.{holds, free}
use Rattle.log_server.specs.Records.{held_record}
use Rattle.log_server.specs.Area.{area_pieces, area_places, area_meaning}
use Rattle.log_server.specs.Calls.{with_record}
use Rattle.log_server.proofs.Areas.{area_kept, written}
use Rattle.log_server.proofs.Meanings.{cond_two, free_is, held_record_lem, store_counts, store_means}
use Rattle.log_server.proofs.log.serve.LogServerFragmentServer.store.Goals as goal

-- places are left
room : (xs : List ℕ) → false ≡ eqb (free (area_meaning xs)) 0 → length (area_pieces xs) < area_places xs
room xs f = let k = area_kept xs in let e = free_is xs in let g = eqb-false (free (area_meaning xs)) 0 (sym f) in omega (arith, g)

pub invariant_of-self : goal.invariant_of-self
invariant_of-self c =
    let s = c.args.self.now in
    let xs = s.bytes.now in
    let key = c.args.key in
    let r : List ℕ = held_record key.client key.stripe c.args.bytes.now in
    let w = held_record_lem key.client key.stripe c.args.bytes.now key.known key.narrow c.told-bytes in
    let a = store_counts xs r (number_of key) c.args.bytes.now w.0 w.1 w.2 (sym c.if-has.ensures) (room xs c.if-is_full.ensures) in
    let b = written (λ t h. with_record t h r) c.take-area.result s.bytes c.put_record.new.area s.held c.take-area.ensures.value s.count c.put_record.ensures in
    let n = ap (λ (t : List ℕ). length (area_pieces t)) b in
    record { places = s.places ∙ sym (ap area_places b ∙ a.0); count = omega (arith, a.1) }

pub returns : goal.returns
returns c =
    let s = c.args.self.now in
    let xs = s.bytes.now in
    let key = c.args.key in
    let k = number_of key in
    let r : List ℕ = held_record key.client key.stripe c.args.bytes.now in
    let h : holds (area_meaning xs) k ≡ false = sym c.if-has.ensures in
    let f : eqb (free (area_meaning xs)) 0 ≡ false = sym c.if-is_full.ensures in
    let w = held_record_lem key.client key.stripe c.args.bytes.now key.known key.narrow c.told-bytes in
    let b = written (λ t h. with_record t h r) c.take-area.result s.bytes c.put_record.new.area s.held c.take-area.ensures.value s.count c.put_record.ensures ∙ sym (cond_two xs xs (with_record xs (length (area_pieces xs)) r) h f) in
    record {
      answer = sym (cond_two (Err Held) (Err Full) (Ok tt) h f);
      after = ap area_meaning b ∙ store_means xs r k c.args.bytes.now w.0 w.1 w.2;
      area = record { bytes = b; same = ap (λ (b : MutBor (List ℕ)). b.ghost_name) c.take-area.ensures.value };
    }
