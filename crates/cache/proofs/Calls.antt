-- What a fetch from below, a store and a delete do to a cache, from what they do below and to the slots. C and D say that
-- the server below is coherent before and after.
use Rattle.std.proofs.Common.{◌≡◌, ℕ, ◌<◌, true, cond, List, length, is_ok, Some, None, Option, Result, refl, ◌∙◌, arith}
use Rattle.geometry.specs.Keys.{number_of}
use Rattle.geometry.specs.declared.key.Key.{Key}
use Rattle.ordered.proofs.Maps.{find_without_same, rises_without}
use Rattle.server.specs.Meaning.{piece_key, Meaning, holds, bytes_under, fetched, store_answer, store_after, held_answer, delete_after, Sound}
use Rattle.ordered.specs.declared.fault.MapFault.{MapFault}
use Rattle.server.specs.declared.stored.StoredFragment.{StoredFragment}
use Rattle.cache.specs.Slots.{cached, forgotten}
use Rattle.cache.specs.Overlay.{overlaid, Agrees, keep_after}
use Rattle.cache.proofs.Overlays.{holds_over, free_over, store_answer_over, held_answer_over, missed_fetched, delete_over, forget_absent, keep_same, put_over}
use Rattle.cache.proofs.Agreement.{agrees_kept, cached_kept, agrees_stored, agrees_deleted}

module _ {C D : Type 0} (m : Meaning) (sound : Sound m) (ss us : List (Option StoredFragment)) (u : Meaning) where
  module _ (i : ℕ) (f : StoredFragment) {key : Key} {bytes : List ℕ} (old : List ℕ) where
    pub missed :
        f.key ≡ key → f.bytes ≡ bytes → i < length ss → cached ss (number_of key) ≡ None
        → holds m (number_of key) ≡ true → bytes ≡ fetched m (number_of key) old → u ≡ m → us ≡ keep_after m ss i f → (C → D)
        → (bytes ≡ fetched (overlaid ss m) (number_of key) old)
        × (overlaid us u ≡ overlaid ss m)
        × (C × Agrees m ss → D × Agrees u us)
        × (Agrees m ss → cached us (number_of key) ≡ Some bytes)
    missed k b l n h e a w g =
        let stands : bytes_under m (number_of f.key) ≡ Some f.bytes = rw (k, b) (grind arith) in
        let new : cached ss (number_of f.key) ≡ None = rw k n in (
          e ∙ missed_fetched ss m (number_of key) old n,
          rw (a, w) (keep_same m sound.rises ss i f l new stands),
          (λ t. (g t.0, rw (a, w) (agrees_kept m ss t.1 i f l new stands))),
          (λ t. rw (w, ← k, ← b) (cached_kept m ss t i f l new)),
        )

  module _ (k : ℕ) (r : Result (Unit {0}) MapFault) (slots : us ≡ cond (is_ok r) (forgotten k ss) ss) (kept : C → D) where
    pub stored :
        (bytes : List ℕ) → r ≡ store_answer m k → u ≡ store_after m k bytes
        → (r ≡ store_answer (overlaid ss m) k)
        × (overlaid us u ≡ store_after (overlaid ss m) k bytes)
        × (C × Agrees m ss → D × Agrees u us)
    stored bytes e a =
        let h = holds_over ss m k in
        let f = free_over ss m in
        let p = put_over m sound.rises ss k bytes in (
          e ∙ store_answer_over ss m k,
          grind arith,
          λ t. (kept t.0, agrees_stored m ss t.1 us u k r slots bytes e a),
        )

    pub deleted :
        r ≡ held_answer m k → u ≡ delete_after m k
        → (r ≡ held_answer (overlaid ss m) k)
        × (overlaid us u ≡ delete_after (overlaid ss m) k)
        × (C × Agrees m ss → D × Agrees u us)
    deleted e a =
        let n = find_without_same piece_key m.held k sound.rises in
        let d = delete_over ss m k in
        let g = forget_absent (delete_after m k) (rises_without piece_key m.held k sound.rises) ss k (grind arith) in (
          e ∙ held_answer_over ss m k (holds m k) refl,
          grind arith,
          λ t. (kept t.0, agrees_deleted m ss t.1 us u k r slots e a),
        )
