-- The list with one client written over.
use Rattle.std.proofs.Common.{◌≡◌, ℕ, List, slice_set, ap, ◌∙◌}
use Rattle.std.proofs.lemmas.Bool.Decides.{nat_tests}
use Rattle.std.proofs.lemmas.Grind.{common_steps}
use Rattle.std.proofs.lemmas.List.{map-set, set-set, set-get_or}
use Rattle.rack.specs.Worlds.{Client, Idle}
use Rattle.clients.specs.Turns.{client_in}

-- the state that a client has, written there again
pub same_there : (cs : List Client) (c : ℕ) (client : Client) → client ≡ client_in cs c → slice_set cs c client ≡ cs
same_there cs c client e = ap (slice_set cs c) e ∙ set-get_or cs c Idle

pub ruleset written_over = (common_steps, same_there, map-set, set-set, nat_tests)
