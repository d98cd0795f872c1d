use Rattle.workshop.proofs.Lines.{reads_nothing_else}
use Rattle.workshop.proofs.reading.parse.Goals as goal

pub returns-in_err-truck-clause-only : goal.returns-in_err-truck-clause-only
returns-in_err-truck-clause-only c = reads_nothing_else

pub returns-in_err-tyre-clause-only : goal.returns-in_err-tyre-clause-only
returns-in_err-tyre-clause-only c = reads_nothing_else

pub returns-in_err-kpa-clause-only : goal.returns-in_err-kpa-clause-only
returns-in_err-kpa-clause-only c = reads_nothing_else

pub returns-then-not-is_empty-clause-only : goal.returns-then-not-is_empty-clause-only
returns-then-not-is_empty-clause-only c = reads_nothing_else

pub returns-clause-only : goal.returns-clause-only
returns-clause-only c = reads_nothing_else
