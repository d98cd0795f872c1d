use Rattle.row_fragments.proofs.KeysHeld.{starts_with_all}
use Rattle.row_fragments.proofs.walk.KeyWalk.new.Goals as goal

pub returns-clause-law : goal.returns-clause-law
returns-clause-law c = starts_with_all
