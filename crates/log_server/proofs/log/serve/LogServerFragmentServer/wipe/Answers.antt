use Rattle.std.proofs.Common.{◌≡◌, ℕ, ◌*◌, List, ◌++◌, length, drop, replicate, sym, refl, ap, ◌∙◌, MutBor}
use Rattle.log_server.specs.Records.{record_length}
use Rattle.log_server.specs.Area.{area_pieces, area_places, area_meaning}
use Rattle.log_server.specs.Calls.{wiped}
use Rattle.log_server.proofs.Areas.{area_wipe, cleared, written}
use Rattle.log_server.proofs.Meanings.{wipe_means}
use Rattle.log_server.proofs.log.serve.LogServerFragmentServer.wipe.Goals as goal

-- the bytes that are left
left : (taken held : MutBor (List ℕ)) (zs : List ℕ) (h : ℕ) → taken ≡ held → h ≡ length (area_pieces held.now) → zs ≡ replicate (record_length * h) 0 ++ drop (record_length * h) taken.now → zs ≡ wiped held.now
left taken held zs h e p q = written (λ t h. replicate (record_length * h) 0 ++ drop (record_length * h) t) taken held zs h e p q ∙ cleared held.now (length (area_pieces held.now)) refl

pub invariant_of-self : goal.invariant_of-self
invariant_of-self c =
    let s = c.args.self.now in
    let b = left c.take-area.result s.bytes c.clear.new.area s.held c.take-area.ensures.value s.count c.clear.ensures in
    let a = area_wipe s.bytes.now in
    record { places = s.places ∙ sym (ap area_places b ∙ a.1); count = sym (ap (λ (t : List ℕ). length (area_pieces t)) b ∙ ap length a.0) }

pub returns : goal.returns
returns c =
    let s = c.args.self.now in
    let b = left c.take-area.result s.bytes c.clear.new.area s.held c.take-area.ensures.value s.count c.clear.ensures in
    record {
      after = ap area_meaning b ∙ wipe_means s.bytes.now;
      area = record { bytes = b; same = ap (λ (b : MutBor (List ℕ)). b.ghost_name) c.take-area.ensures.value };
    }
