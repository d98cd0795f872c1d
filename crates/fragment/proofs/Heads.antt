-- A head written is read as it was, and what reads as a head of layout 2 was written so.
use Rattle.std.proofs.Common.{◌≡◌, ℕ, ◌+◌, ◌<◌, cond, ◌&&◌, eqb, ltb, List, ◌∷◌, ◌++◌, length, get_or, drop, replicate, Some, Ok, Err, sym, refl, ap, ◌∙◌, arith, lt-ltb, eq-eqb, eqb-true}
use Rattle.std.proofs.lemmas.Bool.{and_parts}
use Rattle.std.proofs.lemmas.Bool.Decides.{nat_tests}
use Rattle.std.proofs.ByRecursion.{All-drop}
use Rattle.std.proofs.lemmas.List.{length-drop}
use Rattle.geometry.specs.Sizes.{head_length}
use Rattle.geometry.specs.Keys.{client_of, stripe_of}
use Rattle.fragment.specs.declared.cause.Cause.TheVariants.{BadRow, BadHead}
use Rattle.fragment.specs.declared.layout.Layout.{Layout}
use Rattle.fragment.specs.declared.layout.Layout.TheVariants.{Two}
use Rattle.geometry.specs.Bytes.{le4, word4, zeros}
use Rattle.fragment.specs.Heads.{head_bytes, layout_in, names_stripe, head_fits, head_of, read_head}
use Rattle.fragment.specs.Laws.{Bytes}
use Rattle.fragment.proofs.Parts.{passed, zeros_are, listed}
use Rattle.fragment.proofs.Words.{word4_le4, le4_word4}

-- a head that was written reads
pub reads_head : (n k i : ℕ) → i + 1 < n → read_head n k i (head_bytes n k i) ≡ Ok Two
reads_head n k i h =
    rw (eq-eqb n n refl, eq-eqb (client_of k) (client_of k) refl, eq-eqb i i refl, lt-ltb (i + 1) n h, eq-eqb (word4 (le4 (stripe_of k)) 0) (stripe_of k) (word4_le4 (stripe_of k) (omega arith)))

second_layout : (b : ℕ) → layout_in b ≡ Some Two → b ≡ 2
second_layout b e = grind (arith, nat_tests)

-- a head that reads in layout 2 is what is written
pub head_exact : (n k i : ℕ) (head : List ℕ) (l : Layout) → Bytes head_length head → layout_in (get_or head 0 0) ≡ Some Two → read_head n k i head ≡ Ok l → (l ≡ Two) × (head ≡ head_bytes n k i)
head_exact n k i head l (long, bytes) two e =
    let rest : List ℕ = drop 4 head in
    let client = eqb (get_or head 2 0) (client_of k) in
    let index = eqb (get_or head 3 0) i in
    let row = passed (eqb (get_or head 1 0) n) (cond (head_fits n k i (get_or head 2 0) (get_or head 3 0) rest) (Ok Two) (Err BadHead)) BadRow l (sym (ap (head_of n k i head) two) ∙ e) in
    let fits = passed (head_fits n k i (get_or head 2 0) (get_or head 3 0) rest) (Ok Two) BadHead l row.1 in
    let all = and_parts (client && index && ltb (i + 1) n) (names_stripe k rest) fits.0 in
    let front = and_parts client index (and_parts (client && index) (ltb (i + 1) n) all.0).0 in
    let names = and_parts (eqb (word4 rest 0) (stripe_of k)) (zeros (drop 4 rest)) all.1 in
    let rest_long : length rest ≡ 28 = simp length-drop (omega arith) in
    let stripe = le4_word4 rest (All-drop (λ b. b < 256) 4 head bytes) 0 (omega arith) ∙ ap le4 (eqb-true (word4 rest 0) (stripe_of k) names.0) in
    let blank : drop 4 rest ≡ replicate 24 0 = zeros_are 24 (drop 4 rest) (simp length-drop (omega arith)) names.1 in (
      (cc fits.1),
      listed 4 head (omega arith)
          ∙ (λ t. second_layout (get_or head 0 0) two t
          ∷ eqb-true (get_or head 1 0) n row.0 t
          ∷ eqb-true (get_or head 2 0) (client_of k) front.0 t
          ∷ eqb-true (get_or head 3 0) i front.1 t
          ∷ listed 4 rest (omega arith) t)
          ∙ (λ t. 2 ∷ n ∷ client_of k ∷ i ∷ stripe t ++ blank t),
    )
