-- What is cached, as slots are emptied and filled.
use Rattle.std.proofs.Common.{◌≡◌, ℕ, zero, suc, ◌<◌, List, [], ◌∷◌, length, get_or, set, Some, None, Option, refl, arith}
use Rattle.std.specs.List.{flat_map, find}
use Rattle.std.specs.Option.{option_map, option_to_list}
use Rattle.std.specs.Bool.{◌==◌}
use Rattle.std.proofs.lemmas.List.{length-map}
use Rattle.std.proofs.lemmas.Bool.Decides.{nat_tests}
use Rattle.geometry.specs.Keys.{number_of}
use Rattle.server.specs.declared.stored.StoredFragment.{StoredFragment}
use Rattle.cache.specs.Slots.{cached, forgot, forgotten, vacated, replaced}

pub forgotten_same : (ss : List (Option StoredFragment)) (k : ℕ) → cached (forgotten k ss) k ≡ None
forgotten_same [] k = refl
forgotten_same (None ∷ ss) k = forgotten_same ss k
forgotten_same (Some f ∷ ss) k = let ih = forgotten_same ss k in grind (arith, nat_tests)

pub forgotten_other : (ss : List (Option StoredFragment)) (k q : ℕ) → (q ≡ k → ⊥) → cached (forgotten k ss) q ≡ cached ss q
forgotten_other [] k q h = refl
forgotten_other (None ∷ ss) k q h = forgotten_other ss k q h
forgotten_other (Some f ∷ ss) k q h = let ih = forgotten_other ss k q h in grind (arith, nat_tests)

-- an empty slot is filled
filled_same : (ss : List (Option StoredFragment)) (i : ℕ) (f : StoredFragment) → i < length ss → cached ss (number_of f.key) ≡ None → cached (set ss i (Some f)) (number_of f.key) ≡ Some f.bytes
filled_same [] i f h n = absurd (omega arith)
filled_same (s ∷ ss) zero f h n = grind (arith, nat_tests)
filled_same (None ∷ ss) (suc i) f h n = filled_same ss i f (omega arith) n
filled_same (Some g ∷ ss) (suc i) f h n = let ih = filled_same ss i f in grind (arith, nat_tests)

filled_other : (ss : List (Option StoredFragment)) (i q : ℕ) (f : StoredFragment) → get_or ss i None ≡ None → (q ≡ number_of f.key → ⊥) → cached (set ss i (Some f)) q ≡ cached ss q
filled_other [] i q f e h = refl
filled_other (None ∷ ss) zero q f e h = grind (arith, nat_tests)
filled_other (Some g ∷ ss) zero q f e h = cc
filled_other (None ∷ ss) (suc i) q f e h = filled_other ss i q f e h
filled_other (Some g ∷ ss) (suc i) q f e h = let ih = filled_other ss i q f e h in grind (arith, nat_tests)

-- slot i is empty once what it holds has gone
forgot_at : (ss : List (Option StoredFragment)) (i k : ℕ) → get_or (forgotten k ss) i None ≡ forgot k (get_or ss i None)
forgot_at [] i k = refl
forgot_at (s ∷ ss) zero k = refl
forgot_at (s ∷ ss) (suc i) k = forgot_at ss i k

vacated_at : (ss : List (Option StoredFragment)) (i : ℕ) (s : Option StoredFragment) → get_or ss i None ≡ s → get_or (vacated ss s) i None ≡ None
vacated_at ss i None e = e
vacated_at ss i (Some f) e = let t = forgot_at ss i (number_of f.key) in grind (arith, nat_tests)

pub vacated_none : (ss : List (Option StoredFragment)) (s : Option StoredFragment) (k : ℕ) → cached ss k ≡ None → cached (vacated ss s) k ≡ None
vacated_none ss None k n = n
vacated_none ss (Some f) k n =
    let s = forgotten_same ss (number_of f.key) in let o = forgotten_other ss (number_of f.key) k in grind arith

vacated_length : (ss : List (Option StoredFragment)) (s : Option StoredFragment) → length (vacated ss s) ≡ length ss
vacated_length ss None = refl
vacated_length ss (Some f) = length-map ss (forgot (number_of f.key))

module _ (ss : List (Option StoredFragment)) (i : ℕ) (f : StoredFragment) where
  pub replaced_same : i < length ss → cached ss (number_of f.key) ≡ None → cached (replaced ss i f) (number_of f.key) ≡ Some f.bytes
  replaced_same h n =
      let s = get_or ss i None in
      filled_same (vacated ss s) i f (rw (vacated_length ss s) h) (vacated_none ss s (number_of f.key) n)

  pub replaced_other : (q : ℕ) → (q ≡ number_of f.key → ⊥) → cached (replaced ss i f) q ≡ cached (vacated ss (get_or ss i None)) q
  replaced_other q h = let s = get_or ss i None in filled_other (vacated ss s) i q f (vacated_at ss i s refl) h

-- in the words of the library
pub cached_found : (ss : List (Option StoredFragment)) (k : ℕ) → cached ss k ≡ option_map (λ f. f.bytes) (find (λ f. number_of f.key == k) (flat_map option_to_list ss))
cached_found [] k = refl
cached_found (None ∷ ss) k = cached_found ss k
cached_found (Some f ∷ ss) k = let ih = cached_found ss k in grind (arith, nat_tests)
