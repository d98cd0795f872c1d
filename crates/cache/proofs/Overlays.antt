-- How the meaning of a cache goes with the meaning below it.
use Rattle.std.proofs.Common.{◌≡◌, ℕ, ◌-◌, ◌<◌, Bool, true, false, cond, List, length, get_or, Some, None, Ok, Err, Option, sym, refl, ap, ◌∙◌, arith}
use Rattle.std.proofs.lemmas.Slice.Eq.{bytes_eq-Decides}
use Rattle.std.proofs.lemmas.List.{length-map}
use Rattle.std.specs.Option.{option_map}
use Rattle.geometry.specs.Keys.{number_of}
use Rattle.ordered.specs.Maps.{find, put, least, Rises}
use Rattle.ordered.proofs.Maps.{find_number, find_map, has_map, put_map, without_map, least_map, rises_map, same_from_finds}
use Rattle.server.specs.Meaning.{Piece, piece_key, Meaning, holding, holds, key_in, key_from, free, bytes_under, or_else, fetched, store_answer, held_answer, delete_after}
use Rattle.ordered.specs.declared.fault.MapFault.TheVariants.{Absent}
use Rattle.server.specs.declared.stored.StoredFragment.{StoredFragment}
use Rattle.cache.specs.Slots.{cached, forgotten, vacated, replaced}
use Rattle.cache.specs.Overlay.{over, overlaid, is_spare, is_free, keep_after}
use Rattle.cache.proofs.Cached.{forgotten_same, forgotten_other, vacated_none, replaced_same, replaced_other}

module _ (ss : List (Option StoredFragment)) (m : Meaning) where
  same_key : (p : Piece) → piece_key (over ss p) ≡ piece_key p
  same_key p = refl

  -- ---- answers

  pub holds_over : (k : ℕ) → holds (overlaid ss m) k ≡ holds m k
  holds_over k = has_map piece_key piece_key (over ss) same_key m.held k

  pub free_over : free (overlaid ss m) ≡ free m
  free_over = ap (λ n. m.places - n) (length-map m.held (over ss))

  key_in_over : (o : Option Piece) → key_in (option_map (over ss) o) ≡ key_in o
  key_in_over None = refl
  key_in_over (Some p) = refl

  pub from_over : (k : ℕ) → key_from (overlaid ss m) k ≡ key_from m k
  from_over k = ap key_in (least_map piece_key piece_key (over ss) same_key m.held k) ∙ key_in_over (least piece_key m.held k)

  pub store_answer_over : (k : ℕ) → store_answer m k ≡ store_answer (overlaid ss m) k
  store_answer_over k = let h = holds_over k in let f = free_over in grind arith

  pub held_answer_over : (k : ℕ) (h : Bool) → h ≡ holds m k → cond h (Ok tt) (Err Absent) ≡ held_answer (overlaid ss m) k
  held_answer_over k h e = let t = holds_over k in cc

  -- ---- bytes: the cached ones, else those below

  pub find_over : (k : ℕ) → find piece_key (overlaid ss m).held k ≡ option_map (over ss) (find piece_key m.held k)
  find_over k = find_map piece_key piece_key (over ss) same_key m.held k

  bytes_over : (k : ℕ) → bytes_under (overlaid ss m) k ≡ option_map (or_else (cached ss k)) (bytes_under m k)
  bytes_over k = let n = find_number piece_key m.held k in let e = find_over k in grind arith

  pub absent_fetched : (k : ℕ) (old : List ℕ) → holds m k ≡ false → old ≡ fetched (overlaid ss m) k old
  absent_fetched k old h = let e = bytes_over k in grind arith

  pub hit_fetched : (k : ℕ) (old bytes : List ℕ) → holds m k ≡ true → cached ss k ≡ Some bytes → bytes ≡ fetched (overlaid ss m) k old
  hit_fetched k old bytes h n = let e = bytes_over k in grind arith

  pub missed_fetched : (k : ℕ) (old : List ℕ) → cached ss k ≡ None → fetched m k old ≡ fetched (overlaid ss m) k old
  missed_fetched k old n = let e = bytes_over k in grind arith

  pub delete_over : (k : ℕ) → overlaid ss (delete_after m k) ≡ delete_after (overlaid ss m) k
  delete_over k = ap (holding m) (sym (without_map piece_key piece_key (over ss) same_key m.held k))

-- ---- changes of the cache that leave its meaning

abbrev Spare : Meaning → List (Option StoredFragment) → ℕ → Type 0
Spare m ss k = (bytes : List ℕ) → bytes_under m k ≡ Some bytes → or_else (cached ss k) bytes ≡ bytes

spare_from : (m : Meaning) (ss : List (Option StoredFragment)) (k : ℕ) → is_spare m ss k ≡ true → Spare m ss k
spare_from m ss k t b e = let d = bytes_eq-Decides in grind arith

module _ (m : Meaning) (rises : Rises piece_key m.held) where
  rises_over : (ss : List (Option StoredFragment)) → Rises piece_key (overlaid ss m).held
  rises_over ss = rises_map piece_key piece_key (over ss) (same_key ss m) m.held rises

  overlaid_same :
      (ss us : List (Option StoredFragment))
      → ((k : ℕ) (bytes : List ℕ) → bytes_under m k ≡ Some bytes → or_else (cached us k) bytes ≡ or_else (cached ss k) bytes)
      → overlaid us m ≡ overlaid ss m
  overlaid_same ss us h =
      ap (holding m)
      (same_from_finds piece_key _ _ (rises_over us) (rises_over ss)
      (λ k. let n = find_number piece_key m.held k in let a = h k in find_over us m k ∙ grind arith ∙ sym (find_over ss m k)))

  forget_same : (ss : List (Option StoredFragment)) (k : ℕ) → Spare m ss k → overlaid (forgotten k ss) m ≡ overlaid ss m
  forget_same ss k spare =
      overlaid_same ss (forgotten k ss)
      (λ q b e. let s = forgotten_same ss k in let o = forgotten_other ss k q in let p = spare b in grind arith)

  -- where the server does not hold the key
  pub forget_absent : (ss : List (Option StoredFragment)) (k : ℕ) → holds m k ≡ false → overlaid (forgotten k ss) m ≡ overlaid ss m
  forget_absent ss k h = forget_same ss k (λ b e. grind arith)

  vacate_same : (ss : List (Option StoredFragment)) (s : Option StoredFragment) → is_free m ss s ≡ true → overlaid (vacated ss s) m ≡ overlaid ss m
  vacate_same ss None v = refl
  vacate_same ss (Some f) v = forget_same ss (number_of f.key) (spare_from m ss (number_of f.key) v)

  module _
      (ss : List (Option StoredFragment)) (i : ℕ) (f : StoredFragment) (within : i < length ss)
      (new : cached ss (number_of f.key) ≡ None) (stands : bytes_under m (number_of f.key) ≡ Some f.bytes) where
    replace_same : overlaid (replaced ss i f) m ≡ overlaid (vacated ss (get_or ss i None)) m
    replace_same =
        overlaid_same (vacated ss (get_or ss i None)) (replaced ss i f)
        (λ q b e.
        let n = vacated_none ss (get_or ss i None) (number_of f.key) new in
        let s = replaced_same ss i f within new in
        let o = replaced_other ss i f q in
        grind arith)

    pub keep_same : overlaid (keep_after m ss i f) m ≡ overlaid ss m
    keep_same = let v = vacate_same ss (get_or ss i None) in let r = replace_same in grind arith

  -- ---- a new key

  pub put_over :
      (ss : List (Option StoredFragment)) (k : ℕ) (bytes : List ℕ) → holds m k ≡ false
      → overlaid (forgotten k ss) (holding m (put piece_key m.held (k, bytes)))
      ≡ holding m (put piece_key (overlaid ss m).held (k, bytes))
  put_over ss k bytes new =
      let us = forgotten k ss in
      let e : over us (k, bytes) ≡ (k, bytes) = ap (λ o. (k, or_else o bytes)) (forgotten_same ss k) in
      ap (holding m)
      (sym (put_map piece_key piece_key (over us) (same_key us m) m.held (k, bytes))
      ∙ ap (put piece_key (overlaid us m).held) e
      ∙ ap (λ (z : Meaning). put piece_key z.held (k, bytes)) (forget_absent ss k new))
