use Rattle.std.proofs.Common.{◌≡◌, ℕ, true, false, drop}
use Rattle.ordered.specs.Maps.{has}
use Rattle.server.specs.Meaning.{piece_key}
use Rattle.log_server.specs.Area.{pieces_in, apart}
use Rattle.log_server.proofs.Pieces.{IsBelow}
use Rattle.log_server.proofs.apart.keys_apart.Given as goal

-- those walked have keys of their own, none below the least
abbrev pub invariant-loop-i : goal.invariant-loop-i
invariant-loop-i l =
    (apart (drop l.i (pieces_in l.records)) ≡ true)
    × ((k : ℕ) → IsBelow l.least k → has piece_key (drop l.i (pieces_in l.records)) k ≡ false)
