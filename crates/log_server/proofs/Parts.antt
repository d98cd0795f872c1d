-- One record of an area, written over.
use Rattle.std.proofs.Common.{◌≡◌, ℕ, ◌+◌, ◌*◌, List, ◌++◌, take, drop, ap, ◌∙◌, arith}
use borrow.Rule.Slice.PartMut.{put_mid}
use Rattle.geometry.proofs.Parts.{put_part}
use Rattle.log_server.specs.Records.{record_length}
use Rattle.log_server.specs.Calls.{with_record}

pub put_one : (i k : ℕ) (xs r s : List ℕ) → k ≡ record_length → r ≡ s → put_mid (record_length * i) k xs r ≡ with_record xs i s
put_one i k xs r s e q =
    let n : record_length * i + record_length ≡ record_length * (i + 1) = omega arith in
    put_part (record_length * i) k record_length xs r e ∙ ap (λ (m : ℕ). take (record_length * i) xs ++ (r ++ drop m xs)) n ∙ ap (λ (t : List ℕ). take (record_length * i) xs ++ (t ++ drop (record_length * (i + 1)) xs)) q
