-- The laws of meanings, from those of ordered maps.
use Rattle.std.proofs.Common.{◌≡◌, ℕ, ◌+◌, ◌<◌, ◌≤◌, true, false, eqb, ltb, List, [], ◌∷◌, is_some, Some, None, Ok, Option, sym, refl, ap, ◌∙◌, ⊎_elim, arith}
use Rattle.std.specs.List.{AllByRecursion}
use Rattle.std.proofs.lemmas.Bool.Decides.{nat_tests}
use Rattle.std.proofs.lemmas.Bool.{cond_both, cases_Bool, eqb-true, eqb-false}
use Rattle.ordered.specs.Maps.{find, put, without, least}
use Rattle.ordered.proofs.Maps.{find_put_same, find_put_other, find_without_same, find_without_other, length_put_new, length_without_held, without_absent, rises_put, rises_without, least_from, least_held, least_none, none_least, least_gap, same_from_finds}
use Rattle.server.specs.Meaning.{Piece, piece_key, Meaning, IsPiece, Sound, holding, holds, key_in, free, bytes_of, bytes_under, store_answer, store_after}
use Rattle.server.specs.Laws.{HeldHasBytes, StoreFinds, DeleteFinds, WipeFinds, RefusedStays, PlacesStay, FreeCounts, FromIsLeast, FromIsNone, SoundStays, OneMeaning}

bytes_there : (o : Option Piece) → is_some o ≡ is_some (bytes_of o)
bytes_there (Some p) = refl
bytes_there None = refl

pub held_has_bytes : HeldHasBytes
held_has_bytes m k = bytes_there (find piece_key m.held k)

-- what an accepted store says of the server, and what it leaves
accepted : (m : Meaning) (k : ℕ) (bytes : List ℕ) → store_answer m k ≡ Ok tt → (holds m k ≡ false) × (0 < free m) × (store_after m k bytes ≡ holding m (put piece_key m.held (k, bytes)))
accepted m k bytes e = grind (arith, nat_tests)

pub store_finds : StoreFinds
store_finds m k bytes e =
    let s = (accepted m k bytes e).2 in (
      ap (λ t. bytes_under t k) s ∙ ap bytes_of (find_put_same piece_key m.held (k, bytes)),
      λ q d. ap (λ t. bytes_under t q) s ∙ ap bytes_of (find_put_other piece_key m.held (k, bytes) q d),
    )

pub delete_finds : DeleteFinds
delete_finds m k s = (
  ap bytes_of (find_without_same piece_key m.held k s.rises),
  λ q d. ap bytes_of (find_without_other piece_key m.held k q d),
)

pub wipe_finds : WipeFinds
wipe_finds m k = refl

pub refused_stays : RefusedStays
refused_stays m k bytes f =
    (λ e. grind (arith, nat_tests), λ e. let w = without_absent piece_key m.held k in grind (arith, nat_tests))

pub places_stay : PlacesStay
places_stay m k bytes = (grind (arith, nat_tests), refl, refl)

pub free_counts : FreeCounts
free_counts m k bytes s = (
  λ e.
      let a = accepted m k bytes e in
      let l = length_put_new piece_key m.held (k, bytes) a.0 in
      ap (λ t. free t + 1) a.2 ∙ omega arith,
  λ e. let l = length_without_held piece_key m.held k in grind (arith, nat_tests),
  omega arith,
)

no_key : (o : Option Piece) → key_in o ≡ None → o ≡ None
no_key (Some p) e = absurd (grind arith)
no_key None e = refl

not_some : (o : Option Piece) → is_some o ≡ false → o ≡ None
not_some (Some p) e = absurd (grind arith)
not_some None e = refl

from_least : (m : Meaning) (k q : ℕ) (o : Option Piece) → Sound m → least piece_key m.held k ≡ o → key_in o ≡ Some q → (holds m q ≡ true) × (k ≤ q) × ((j : ℕ) → k ≤ j → j < q → holds m j ≡ false)
from_least m k q (Some p) s f e =
    let n : p.0 ≡ q = grind arith in
    rw (← n) (
      ap is_some (least_held piece_key m.held k p f),
      least_from piece_key m.held k p f,
      λ j l u. ap is_some (least_gap piece_key m.held k p j s.rises f l u),
    )
from_least m k q None s f e = absurd (grind arith)

pub from_is_least : FromIsLeast
from_is_least m k q s = from_least m k q (least piece_key m.held k) s refl

pub from_is_none : FromIsNone
from_is_none m k = (
  λ e q l. ap is_some (least_none piece_key m.held k q (no_key (least piece_key m.held k) e) l),
  λ h. ap key_in (none_least piece_key m.held k (λ q l. not_some (find piece_key m.held q) (h q l))),
)

all_put : (ps : List Piece) (p : Piece) → IsPiece p → AllByRecursion IsPiece ps → AllByRecursion IsPiece (put piece_key ps p)
all_put [] p h a = (h, tt)
all_put (x ∷ ps) p h a =
    cond_both (ltb x.0 p.0) _ _ (AllByRecursion IsPiece)
    (λ _. (a.0, all_put ps p h a.1))
    (λ _. cond_both (eqb x.0 p.0) _ _ (AllByRecursion IsPiece) (λ _. (h, a.1)) (λ _. (h, a)))

all_without : (ps : List Piece) (k : ℕ) → AllByRecursion IsPiece ps → AllByRecursion IsPiece (without piece_key ps k)
all_without [] k a = tt
all_without (x ∷ ps) k a = cond_both (eqb x.0 k) _ _ (AllByRecursion IsPiece) (λ _. a.1) (λ _. (a.0, all_without ps k a.1))

pub sound_stays : SoundStays
sound_stays m s = (
  λ k bytes h l.
      cond_both (holds m k) _ _ Sound (λ _. s) (λ f.
      cond_both (eqb (free m) 0) _ _ Sound (λ _. s) (λ z.
      record {
        few = let n = length_put_new piece_key m.held (k, bytes) f in let r = eqb-false (free m) 0 z in omega arith;
        small = s.small;
        rises = rises_put piece_key m.held (k, bytes) s.rises;
        whole = all_put m.held (k, bytes) (h, l) s.whole;
      })),
  λ k.
      record {
        few =
            let b = cases_Bool (holds m k) in
            let a = without_absent piece_key m.held k in
            let l = length_without_held piece_key m.held k in
            grind (arith, nat_tests);
        small = s.small;
        rises = rises_without piece_key m.held k s.rises;
        whole = all_without m.held k s.whole;
      },
  record { few = omega arith; small = s.small; rises = refl; whole = tt },
)

-- a key's piece is the key and the bytes under it
abbrev piece_at : ℕ → Option (List ℕ) → Option Piece
piece_at k (Some bytes) = Some (k, bytes)
piece_at k None = None

piece_at_lem : (ps : List Piece) (k : ℕ) → find piece_key ps k ≡ piece_at k (bytes_of (find piece_key ps k))
piece_at_lem [] k = refl
piece_at_lem (p ∷ ps) k =
    ⊎_elim
    (λ t. rw t (ap (λ n. Some (n, p.1)) (eqb-true p.0 k t)))
    (λ f. rw f (piece_at_lem ps k))
    (cases_Bool (eqb p.0 k))

pub one_meaning : OneMeaning
one_meaning m n s t e f =
    let same : m.held ≡ n.held =
    same_from_finds piece_key m.held n.held s.rises t.rises
    (λ k. piece_at_lem m.held k ∙ ap (piece_at k) (f k) ∙ sym (piece_at_lem n.held k)) in
    ap (λ p. record { places = p; held = m.held }) e ∙ ap (holding n) same
