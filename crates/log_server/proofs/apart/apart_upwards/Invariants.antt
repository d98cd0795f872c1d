use Rattle.std.proofs.Common.{◌≡◌, ℕ, true, false, take}
use Rattle.ordered.specs.Maps.{has}
use Rattle.server.specs.Meaning.{piece_key}
use Rattle.log_server.specs.Area.{pieces_in, apart}
use Rattle.log_server.proofs.Pieces.{IsAbove}
use Rattle.log_server.proofs.apart.apart_upwards.Given as goal

-- those walked have keys of their own, none above the greatest
abbrev pub invariant-loop-i : goal.invariant-loop-i
invariant-loop-i l =
    (apart (take l.i (pieces_in l.records)) ≡ true)
    × ((k : ℕ) → IsAbove l.greatest k → has piece_key (take l.i (pieces_in l.records)) k ≡ false)
