-- The bytes of a log server, and what they mean.
use Rattle.std.specs.Prelude.{◌≡◌, ℕ, List}
use Rattle.server.specs.Meaning.{Meaning}
use Rattle.log_server.specs.declared.log.LogServer.{LogServer}
use Rattle.log_server.specs.Area.{area_meaning}

abbrev pub bytes_in : LogServer → List ℕ
bytes_in s = s.bytes.now

abbrev pub meaning_in : LogServer → Meaning
meaning_in s = area_meaning (bytes_in s)

-- a call leaves these bytes, in the lender's own area
pub record Leaves (old new : LogServer) (left : List ℕ) : Type 0 where
  pub bytes : bytes_in new ≡ left
  pub same : new.bytes.ghost_name ≡ old.bytes.ghost_name
