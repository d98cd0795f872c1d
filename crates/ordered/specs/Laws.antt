-- What holds of every ordered map.
use Rattle.std.specs.Prelude.{◌≡◌, ℕ, ◌+◌, ◌<◌, ◌≤◌, true, false, List, length, Some, None, ◌≢◌}
use Rattle.ordered.specs.Maps.{find, has, put, without, least, Rises}

module _ {X : Type 0} (n : X → ℕ) where
  -- an element that was put is found, and every other number finds what it found before
  abbrev pub PutFinds : Type 0
  PutFinds =
      (xs : List X) (e : X)
      → (find n (put n xs e) (n e) ≡ Some e) × ((k : ℕ) → (k ≢ n e) → find n (put n xs e) k ≡ find n xs k)

  -- a number that was taken out finds nothing, and every other number finds what it found before
  abbrev pub WithoutFinds : Type 0
  WithoutFinds =
      (xs : List X) (k : ℕ)
      → Rises n xs
      → (find n (without n xs k) k ≡ None) × ((q : ℕ) → (q ≢ k) → find n (without n xs k) q ≡ find n xs q)

  abbrev pub PutCounts : Type 0
  PutCounts =
      (xs : List X) (e : X)
      → Rises n xs
      → (has n xs (n e) ≡ false → length (put n xs e) ≡ length xs + 1) × (has n xs (n e) ≡ true → length (put n xs e) ≡ length xs)

  abbrev pub WithoutCounts : Type 0
  WithoutCounts =
      (xs : List X) (k : ℕ)
      → (has n xs k ≡ true → length (without n xs k) + 1 ≡ length xs) × (has n xs k ≡ false → without n xs k ≡ xs)

  abbrev pub OrderStays : Type 0
  OrderStays = (xs : List X) → Rises n xs → ((e : X) → Rises n (put n xs e)) × ((k : ℕ) → Rises n (without n xs k))

  -- the least element from k on is held, is not below k, and no number between is held
  abbrev pub LeastIsLeast : Type 0
  LeastIsLeast =
      (xs : List X) (k : ℕ) (x : X)
      → Rises n xs
      → least n xs k ≡ Some x
      → (find n xs (n x) ≡ Some x) × (k ≤ n x) × ((q : ℕ) → k ≤ q → q < n x → find n xs q ≡ None)

  -- there is none exactly where no number from k on is held
  abbrev pub LeastIsNone : Type 0
  LeastIsNone =
      (xs : List X) (k : ℕ)
      → (least n xs k ≡ None → (q : ℕ) → k ≤ q → find n xs q ≡ None)
      × (((q : ℕ) → k ≤ q → find n xs q ≡ None) → least n xs k ≡ None)

  -- maps that find the same are the same
  abbrev pub OneList : Type 0
  OneList = (xs ys : List X) → Rises n xs → Rises n ys → ((k : ℕ) → find n xs k ≡ find n ys k) → xs ≡ ys
