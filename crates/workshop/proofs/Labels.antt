-- A text that begins with a label, or does not.
use Rattle.std.proofs.Common.{◌≡◌, ℕ, List, [], ◌∷◌, ◌++◌, Some, refl, arith, eq-eqb}
use Rattle.workshop.specs.Lines.{after}

pub after_label : (p rest : List ℕ) → after p (p ++ rest) ≡ Some rest
after_label [] rest = refl
after_label (c ∷ p) rest = rw (eq-eqb c c refl) (after_label p rest)

pub from_after : (p bs rest : List ℕ) → after p bs ≡ Some rest → bs ≡ p ++ rest
from_after [] bs rest h = cc
from_after (c ∷ p) [] rest h = cc
from_after (c ∷ p) (b ∷ bs) rest h = let on = from_after p bs rest in grind arith
