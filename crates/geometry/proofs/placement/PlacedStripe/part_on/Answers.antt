use Rattle.geometry.proofs.Rounds.{one_part_on_each_server}
use Rattle.geometry.proofs.placement.PlacedStripe.part_on.Goals as goal

pub returns-then-at-n-clause-law : goal.returns-then-at-n-clause-law
returns-then-at-n-clause-law c = one_part_on_each_server

pub returns-then-steps-eq0-clause-law : goal.returns-then-steps-eq0-clause-law
returns-then-steps-eq0-clause-law c = one_part_on_each_server

pub returns-else-steps-eq0-clause-law : goal.returns-else-steps-eq0-clause-law
returns-else-steps-eq0-clause-law c = one_part_on_each_server
