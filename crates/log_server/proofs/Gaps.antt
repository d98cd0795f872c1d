-- The gap that a record leaves, closed.
use Rattle.std.proofs.Common.{◌≡◌, ℕ, ◌+◌, ◌-◌, ◌*◌, ◌<◌, ◌≤◌, List, ◌++◌, length, take, drop, ap, ◌∙◌, arith}
use Rattle.std.proofs.lemmas.List.{append_assoc, take_at, length-append, length-take-le, length-drop}
use Rattle.std.proofs.lemmas.Slice.{drop-append-drop}
use Rattle.std.specs.List.{copy_within}
use Rattle.log_server.specs.Records.{record_length, free_record}
use Rattle.log_server.specs.Calls.{with_record, without_record}

module _ (xs : List ℕ) (i h : ℕ) (l : i < h) (room : record_length * h ≤ length xs) where
  kept : List ℕ
  kept = take (record_length * i) xs ++ take (record_length * (h - 1 - i)) (drop (record_length * (i + 1)) xs)

  length_kept : length kept ≡ record_length * (h - 1)
  unfolding kept
  length_kept =
      let a = length-take-le (record_length * i) xs (omega arith) in
      let b = length-drop (record_length * (i + 1)) xs in
      let c = length-take-le (record_length * (h - 1 - i)) (drop (record_length * (i + 1)) xs) (omega arith) in
      length-append (take (record_length * i) xs) (take (record_length * (h - 1 - i)) (drop (record_length * (i + 1)) xs)) ∙ omega arith

  moved_down : copy_within xs (record_length * i + record_length) (record_length * (h - 1) + record_length) (record_length * i) ≡ kept ++ drop (record_length * (h - 1)) xs
  unfolding kept
  moved_down =
      let n : ℕ = record_length * (h - 1) + record_length - (record_length * i + record_length) in
      let a : n ≡ record_length * (h - 1 - i) = omega arith in
      let b : record_length * i + record_length ≡ record_length * (i + 1) = omega arith in
      let c : record_length * i + n ≡ record_length * (h - 1) = omega arith in
      let v : take n (drop (record_length * i + record_length) xs) ≡ take (record_length * (h - 1 - i)) (drop (record_length * (i + 1)) xs) =
      ap (λ (k : ℕ). take k (drop (record_length * i + record_length) xs)) a ∙ ap (λ (k : ℕ). take (record_length * (h - 1 - i)) (drop k xs)) b in
      ap (λ (t : List ℕ). (take (record_length * i) xs ++ t) ++ drop (record_length * i + n) xs) v ∙ ap (λ (k : ℕ). kept ++ drop k xs) c

  pub gap_closed : with_record (copy_within xs (record_length * i + record_length) (record_length * (h - 1) + record_length) (record_length * i)) (h - 1) free_record ≡ without_record xs i h
  unfolding kept
  gap_closed =
      let m : ℕ = record_length * (h - 1) in
      let e : record_length * (h - 1 + 1) ≡ record_length * h = omega arith in
      ap (λ (t : List ℕ). with_record t (h - 1) free_record) moved_down
      ∙ ap (λ (t : List ℕ). t ++ (free_record ++ drop (record_length * (h - 1 + 1)) (kept ++ drop m xs))) (take_at kept (drop m xs) m length_kept)
      ∙ ap (λ (t : List ℕ). kept ++ (free_record ++ t)) (drop-append-drop m xs kept (record_length * (h - 1 + 1)) (omega arith) length_kept ∙ ap (λ (k : ℕ). drop k xs) e)
      ∙ append_assoc (take (record_length * i) xs) (take (record_length * (h - 1 - i)) (drop (record_length * (i + 1)) xs)) (free_record ++ drop (record_length * h) xs)
