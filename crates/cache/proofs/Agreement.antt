-- What is cached goes on to equal what stands below.
use Rattle.std.proofs.Common.{◌≡◌, ℕ, ◌<◌, true, cond, List, length, get_or, is_ok, Some, None, Option, Result, refl, arith}
use Rattle.std.proofs.lemmas.Slice.Eq.{bytes_eq-Decides}
use Rattle.geometry.specs.Keys.{number_of}
use Rattle.ordered.proofs.Maps.{find_put_other, find_without_other, without_absent}
use Rattle.server.specs.Meaning.{piece_key, Meaning, bytes_under, store_answer, store_after, held_answer, delete_after}
use Rattle.ordered.specs.declared.fault.MapFault.{MapFault}
use Rattle.server.specs.declared.stored.StoredFragment.{StoredFragment}
use Rattle.cache.specs.Slots.{cached, forgotten, vacated}
use Rattle.cache.specs.Overlay.{Agrees, is_free, keep_after}
use Rattle.cache.proofs.Cached.{forgotten_same, forgotten_other, replaced_same, replaced_other}

module _ (m : Meaning) (ss : List (Option StoredFragment)) (agrees : Agrees m ss) where
  agrees_vacated : (s : Option StoredFragment) → Agrees m (vacated ss s)
  agrees_vacated None q b h = agrees q b h
  agrees_vacated (Some f) q b h =
      let s = forgotten_same ss (number_of f.key) in
      let o = forgotten_other ss (number_of f.key) q in
      let t = agrees q b in
      grind arith

  agrees_free : (s : Option StoredFragment) → is_free m ss s ≡ true
  agrees_free None = refl
  agrees_free (Some f) = let t = agrees (number_of f.key) in let d = bytes_eq-Decides in grind arith

  module _ (i : ℕ) (f : StoredFragment) (within : i < length ss) (new : cached ss (number_of f.key) ≡ None) where
    pub agrees_kept : bytes_under m (number_of f.key) ≡ Some f.bytes → Agrees m (keep_after m ss i f)
    agrees_kept stands q b =
        let s = replaced_same ss i f within new in
        let o = replaced_other ss i f q in
        let t = agrees_vacated (get_or ss i None) q b in
        rw (agrees_free (get_or ss i None)) (λ h. grind arith)

    pub cached_kept : cached (keep_after m ss i f) (number_of f.key) ≡ Some f.bytes
    cached_kept = rw (agrees_free (get_or ss i None)) (replaced_same ss i f within new)

  module _ (us : List (Option StoredFragment)) (u : Meaning) (k : ℕ) (r : Result (Unit {0}) MapFault) (slots : us ≡ cond (is_ok r) (forgotten k ss) ss) where
    pub agrees_stored : (bytes : List ℕ) → r ≡ store_answer m k → u ≡ store_after m k bytes → Agrees u us
    agrees_stored bytes e a q b h =
        let s = forgotten_same ss k in
        let o = forgotten_other ss k q in
        let p = find_put_other piece_key m.held (k, bytes) q in
        let t = agrees q b in
        grind arith

    pub agrees_deleted : r ≡ held_answer m k → u ≡ delete_after m k → Agrees u us
    agrees_deleted e a q b h =
        let s = forgotten_same ss k in
        let o = forgotten_other ss k q in
        let p = find_without_other piece_key m.held k q in
        let n = without_absent piece_key m.held k in
        let t = agrees q b in
        grind arith
