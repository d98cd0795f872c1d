use Rattle.std.proofs.Common.{rules}
use Rattle.workshop.proofs.Notes.{stored}
use Rattle.workshop.proofs.newest.Newest.note.Goals as goal

pub returns-in_ok-insert-in_default-clause-noted : goal.returns-in_ok-insert-in_default-clause-noted
returns-in_ok-insert-in_default-clause-noted c = stored _ _ c.args.tyre _ c.in_ok-insert-in_default.ensures.updates (search rules)
