-- Fragments fetched and put together.
use Rattle.std.proofs.Common.{get_or, set, length, arith, ◌≡◌, ℕ, zero, suc, ◌+◌, ◌<◌, ◌≤◌, cond, eqb, Bool, List, [], ◌∷◌, map, Some, None, Ok, Err, Option, Result, true, false, refl, sym, ap, ◌∙◌}
use Rattle.std.specs.Prelude.{if◌then◌else◌}
use Rattle.std.specs.List.{AllByRecursion}
use Rattle.std.proofs.lemmas.Grind.{common_steps}
use Rattle.geometry.specs.declared.key.Key.{Key}
use Rattle.ordered.specs.Maps.{find}
use Rattle.parity.specs.Xor.{xored, nought, Long}
use Rattle.parity.proofs.Xors.{xored_assoc, nought_xored, length-xor_all}
use Rattle.server.specs.Meaning.{Meaning, Sound, Piece, IsPiece, piece_key, bytes_of, or_else, holds}
use Rattle.row.specs.Rows.{at}
use Rattle.rack.specs.Fragments.{bytes_on, together}
use Rattle.rack.specs.Lists.{is_among}
use Rattle.rack.specs.Restarting.{fragment_among}
use Rattle.row_fragments.specs.Lacking.{first_lacking}
use Rattle.row_fragments.specs.Fetches.{unless_lacking, lack_in}
use Rattle.row_fragments.specs.Servers.{numbered}
use Rattle.row_fragments.proofs.Servers.{among_numbered, among_within}
use Rattle.row_fragments.specs.declared.lacks.Lacks.{Lacks}

-- ---- what is fetched is a fragment

long_found : (ps : List Piece) (k : ℕ) → AllByRecursion IsPiece ps → Long (or_else (bytes_of (find piece_key ps k)) nought)
long_found [] k a = refl
long_found (p ∷ ps) k a =
    elim (eqb p.0 k) as (λ t. Long (or_else (bytes_of (cond t (Some p) (find piece_key ps k))) nought)) [ true ↦ a.0.1 | false ↦ long_found ps k a.1 ]

pub long_on : (row : List Meaning) (k s : ℕ) → AllByRecursion Sound row → Long (bytes_on row k s)
long_on [] k zero a = refl
long_on [] k (suc s) a = refl
long_on (m ∷ row) k zero a = long_found m.held k a.0.whole
long_on (m ∷ row) k (suc s) a = long_on row k s a.1

all_long : (row : List Meaning) (k : ℕ) (ss : List ℕ) → AllByRecursion Sound row → AllByRecursion Long (map (bytes_on row k) ss)
all_long row k [] a = tt
all_long row k (s ∷ ss) a = (long_on row k s a, all_long row k ss a)

-- ---- the sum so far, with the fragments of these servers

abbrev pub summed : List Meaning → Key → ℕ → List ℕ → List ℕ → Result (List ℕ) Lacks
summed row key k sum ss = unless_lacking (first_lacking row k ss) key (xored sum (together row ss k))

pub summed_all : (row : List Meaning) (key : Key) (k : ℕ) (ss : List ℕ) → AllByRecursion Sound row → summed row key k nought ss ≡ unless_lacking (first_lacking row k ss) key (together row ss k)
summed_all row key k ss a =
    ap (unless_lacking (first_lacking row k ss) key) (nought_xored (together row ss k) (length-xor_all (map (bytes_on row k) ss) (all_long row k ss a)))

-- what an answer that lets a value through is, and the value
pub got : {A : Type 0} (o : Option ℕ) (key : Key) (x y : A) → Ok x ≡ unless_lacking o key y → (o ≡ None) × (x ≡ y)
got None key x y e = (refl, cc)
got (Some s) key x y e = cc

-- one server more
module _ (row : List Meaning) (key : Key) (k s : ℕ) where
  held_one : first_lacking row k (s ∷ []) ≡ None → holds (at row s) k ≡ true
  held_one e = elim (holds (at row s) k) as (λ t. cond t None (Some s) ≡ None → t ≡ true) [ true ↦ λ _. refl | false ↦ λ f. cc ] e

  pub summed_more : (ss : List ℕ) (sum piece : List ℕ) → Ok piece ≡ unless_lacking (first_lacking row k (s ∷ [])) key (bytes_on row k s) → summed row key k (xored sum piece) ss ≡ summed row key k sum (s ∷ ss)
  summed_more ss sum piece e =
      let g = got (first_lacking row k (s ∷ [])) key piece (bytes_on row k s) e in
      rw (held_one g.0, g.1, xored_assoc sum (bytes_on row k s) (together row ss k))

  -- the server lacks the key
  pub lacked : {A B : Type 0} (ss : List ℕ) (e : Lacks) (x : A) (y : B) → Err e ≡ unless_lacking (first_lacking row k (s ∷ [])) key x → Err e ≡ unless_lacking (first_lacking row k (s ∷ ss)) key y
  lacked {A} {B} ss e x y h =
      let P : Bool → Type 0 = λ t. Err e ≡ unless_lacking (cond t None (Some s)) key x → Err e ≡ unless_lacking (cond t (first_lacking row k ss) (Some s)) key y in
      elim (holds (at row s) k) as P [ true ↦ λ f. cc | false ↦ λ f. cc ] h

-- the refusal alone
pub refused : {A : Type 0} (o : Option ℕ) (key : Key) (e : Lacks) (y : A) → Err e ≡ unless_lacking o key y → Some e ≡ lack_in o key
refused None key e y h = cc
refused (Some s) key e y h = cc

-- ---- the fragments of a stripe

-- of the servers below i that are marked, the fragments are in their places
abbrev pub HeldBelow : List Meaning → ℕ → List Bool → ℕ → List (List ℕ) → Type 0
HeldBelow row k ms i held = (t : ℕ) → t < i → get_or ms t false ≡ true → get_or held t [] ≡ bytes_on row k t

module _ (row : List Meaning) (k : ℕ) (ms : List Bool) (i : ℕ) (held : List (List ℕ)) (below : HeldBelow row k ms i held) where
  pub held_more : (piece : List ℕ) → i < length held → piece ≡ bytes_on row k i → HeldBelow row k ms (i + 1) (set held i piece)
  held_more piece h e t u m = let b = below t in grind (arith, common_steps)

  pub held_same : get_or ms i false ≡ false → HeldBelow row k ms (i + 1) held
  held_same e t u m = let b = below t in grind (arith, common_steps)

  pub all_read : (sum : List ℕ) → length ms ≤ i → sum ≡ together row (numbered 0 ms) k → (s : ℕ) → (if is_among (numbered 0 ms) s then get_or held s [] else sum) ≡ fragment_among row (numbered 0 ms) k s
  all_read sum h e s =
      let own : is_among (numbered 0 ms) s ≡ true → get_or held s [] ≡ bytes_on row k s =
      λ a. let w = among_within ms s a in below s (omega arith) (sym (among_numbered ms s) ∙ a) in
      grind arith
