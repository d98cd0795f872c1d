use Rattle.std.proofs.Common.{◌≡◌, ℕ, ◌≤◌, take}
use Rattle.row.specs.Changes.{applied}
use Rattle.row.proofs.change.make.make_up_to.Given as goal

abbrev pub invariant-loop-done : goal.invariant-loop-done
invariant-loop-done g l =
    (l.done ≤ l.budget)
    × (g.R.ServerRow.meanings l.row ≡ applied (take l.done l.changes) (g.R.ServerRow.meanings l.initial.row))
    × ((s : ℕ) → g.R.ServerRow.coherent l.initial.row s → g.R.ServerRow.coherent l.row s)
