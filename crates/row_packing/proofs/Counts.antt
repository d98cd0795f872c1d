-- The numbers that a loop has left.
use Rattle.std.proofs.Common.{◌≡◌, ℕ, suc, ◌+◌, ◌-◌, ◌<◌, ◌≤◌, [], ◌∷◌, ap, arith}
use Rattle.std.specs.List.{range_with_len}

pub left_more : (i n : ℕ) → i < n → range_with_len i (n - i) ≡ i ∷ range_with_len (i + 1) (n - (i + 1))
left_more i n h = let e : n - i ≡ suc (n - (i + 1)) = omega arith in ap (range_with_len i) e

pub left_none : (i n : ℕ) → n ≤ i → range_with_len i (n - i) ≡ []
left_none i n h = let e : n - i ≡ 0 = omega arith in ap (range_with_len i) e
