-- The keys that servers hold, in order.
use Rattle.std.proofs.Common.{true, lit≤, lit<, OnSome, ◌≡◌, ℕ, zero, suc, ◌*◌, ◌<◌, ◌≤◌, Bool, List, [], ◌∷◌, map, Some, None, Option, refl, sym, ap, ◌∙◌, arith}
use Rattle.std.specs.List.{AllByRecursion, flat_map, list_any}
use Rattle.std.specs.Option.{option_map}
use Rattle.std.proofs.lemmas.Bool.Decides.{nat_tests}
use Rattle.std.proofs.lemmas.List.{append-nil}
use Rattle.geometry.specs.declared.key.Key.{Key}
use Rattle.geometry.specs.Keys.{stripes, number_of, number_in}
use Rattle.ordered.specs.Maps.{least, has, Rises}
use Rattle.ordered.proofs.Maps.{least_from, least_map, rises_map}
use Rattle.server.specs.Meaning.{Meaning, Sound, Piece, IsPiece, piece_key, key_in, key_from, holds}
use Rattle.row.specs.Rows.{at, nobody}
use Rattle.rack.specs.Lists.{in_order, is_among, from_on, lower}
use Rattle.rack.specs.Restarting.{keys_held}
use Rattle.rack.proofs.Orders.{rises-in_order, in_order_rising, least-append, from_on_none, from_on_next, from_on_all, from_on_same, among-append, among-in_order}
use Rattle.row_fragments.specs.Walks.{position_after, before_rest, StartsWithAll, LeftIsAhead}

-- ---- one server

key_in-map : (o : Option Piece) → option_map piece_key o ≡ key_in o
key_in-map None = refl
key_in-map (Some p) = refl

least_one : (m : Meaning) (k : ℕ) → Sound m → least (λ k. k) (in_order (map piece_key m.held)) k ≡ key_from m k
least_one m k s =
    let rises = rises_map piece_key (λ k. k) piece_key (λ p. refl) m.held s.rises in
    rw (in_order_rising (map piece_key m.held) 0 rises) (least_map piece_key (λ k. k) piece_key (λ p. refl) m.held k ∙ key_in-map (least piece_key m.held k))

nobody_sound : Sound nobody
nobody_sound = record { few = lit≤ tt; small = lit< tt; rises = refl; whole = tt }

pub sound_at : (row : List Meaning) (s : ℕ) → AllByRecursion Sound row → Sound (at row s)
sound_at [] zero a = nobody_sound
sound_at [] (suc s) a = nobody_sound
sound_at (m ∷ row) zero a = a.0
sound_at (m ∷ row) (suc s) a = sound_at row s a.1

-- ---- all of them

-- the lowest that any of these servers gives
abbrev pub lowest_from : List Meaning → ℕ → List ℕ → Option ℕ
lowest_from row k [] = None
lowest_from row k (u ∷ us) = lower (key_from (at row u) k) (lowest_from row k us)

pub least-keys_held : (row : List Meaning) (us : List ℕ) (k : ℕ) → AllByRecursion Sound row → least (λ k. k) (keys_held row us) k ≡ lowest_from row k us
least-keys_held row [] k a = refl
least-keys_held row (u ∷ us) k a =
    least-append (map piece_key (at row u).held) (flat_map (λ u. map piece_key (at row u).held) us) k
    ∙ (rw (least_one (at row u) k (sound_at row u a), least-keys_held row us k a))

-- ---- no key is past the last

past_pieces : (ps : List Piece) → AllByRecursion IsPiece ps → key_in (least piece_key ps (8 * stripes)) ≡ None
past_pieces [] a = refl
past_pieces (p ∷ ps) a = let ih = past_pieces ps a.1 in let b : p.0 < 8 * stripes = a.0.0 in grind (arith, nat_tests)

past_last : (row : List Meaning) (us : List ℕ) → AllByRecursion Sound row → lowest_from row (8 * stripes) us ≡ None
past_last row [] a = refl
past_last row (u ∷ us) a = rw (past_pieces (at row u).held (sound_at row u a).whole) (past_last row us a)

pub none_past : (row : List Meaning) (us : List ℕ) → AllByRecursion Sound row → least (λ k. k) (keys_held row us) (8 * stripes) ≡ None
none_past row us a = least-keys_held row us (8 * stripes) a ∙ past_last row us a

rises-keys_held : (row : List Meaning) (us : List ℕ) → Rises (λ k. k) (keys_held row us)
rises-keys_held row us = rises-in_order (flat_map (λ u. map piece_key (at row u).held) us)

-- those of one server
pub keys_held_one : (row : List Meaning) (s : ℕ) → AllByRecursion Sound row → keys_held row (s ∷ []) ≡ map piece_key (at row s).held
keys_held_one row s a =
    let rises = rises_map piece_key (λ k. k) piece_key (λ p. refl) (at row s).held (sound_at row s a).rises in
    rw append-nil (in_order_rising (map piece_key (at row s).held) 0 rises)

-- ---- a step of a walk from p to q, which gives this key

pub step_left : (row : List Meaning) (us : List ℕ) (p q : ℕ) (key : Option Key) → number_in key ≡ least (λ k. k) (keys_held row us) p → q ≡ position_after key → from_on p (keys_held row us) ≡ before_rest key (from_on q (keys_held row us))
step_left row us p q None e f = from_on_none (keys_held row us) p (sym e)
step_left row us p q (Some key) e f =
    from_on_next (keys_held row us) p (number_of key) (rises-keys_held row us) (sym e)
    ∙ ap (λ t. number_of key ∷ from_on t (keys_held row us)) (sym f)

pub step_nearer : (ks : List ℕ) (p q : ℕ) (key : Option Key) → number_in key ≡ least (λ k. k) ks p → q ≡ position_after key → OnSome key ((p < q) × (q ≤ 8 * stripes))
step_nearer ks p q None e f = tt
step_nearer ks p q (Some key) e f =
    let l = least_from (λ k. k) ks p (number_of key) (sym e) in
    let a = key.known in
    let b = key.narrow in
    (omega arith, omega arith)

pub starts_with_all : StartsWithAll
starts_with_all row us = from_on_all (keys_held row us) (rises-keys_held row us)

-- ---- which keys are held

among-pieces : (ps : List Piece) (k : ℕ) → is_among (map piece_key ps) k ≡ has piece_key ps k
among-pieces [] k = refl
among-pieces (p ∷ ps) k = let ih = among-pieces ps k in grind (arith, nat_tests)

among-all : (row : List Meaning) (us : List ℕ) (k : ℕ) → is_among (flat_map (λ u. map piece_key (at row u).held) us) k ≡ list_any (λ u. holds (at row u) k) us
among-all row [] k = refl
among-all row (u ∷ us) k =
    among-append (map piece_key (at row u).held) (flat_map (λ u. map piece_key (at row u).held) us) k
    ∙ (rw (among-pieces (at row u).held k, among-all row us k))

any_same : (f g : ℕ → Bool) (us : List ℕ) → ((u : ℕ) → is_among us u ≡ true → f u ≡ g u) → list_any f us ≡ list_any g us
any_same f g [] h = refl
any_same f g (u ∷ us) h =
    let here = h u in
    let ih = any_same f g us (λ v a. let b = h v in grind (arith, nat_tests)) in
    grind (arith, nat_tests)

among-keys_held : (row : List Meaning) (us : List ℕ) (k : ℕ) → is_among (keys_held row us) k ≡ list_any (λ u. holds (at row u) k) us
among-keys_held row us k = among-in_order (flat_map (λ u. map piece_key (at row u).held) us) k ∙ among-all row us k

pub left_is_ahead : LeftIsAhead
left_is_ahead was now' us p h =
    from_on_same (keys_held now' us) (keys_held was us) p (rises-keys_held now' us) (rises-keys_held was us)
    (λ q l. among-keys_held now' us q ∙ any_same (λ u. holds (at now' u) q) (λ u. holds (at was u) q) us (λ u a. h u q a l) ∙ sym (among-keys_held was us q))
