use Rattle.std.proofs.Common.{◌≡◌, ℕ, ◌<◌, length, get_or}
use Rattle.strips.specs.Rows.{row_action, no_row}
use Rattle.strips.proofs.copying.rows_of.Given as goal

abbrev pub invariant-loop-action : goal.invariant-loop-action
invariant-loop-action g l = (length l.row-items ≡ (g.T.Task.meaning l.task).actions) × ((a : ℕ) → a < l.action → row_action (get_or l.row-items a no_row) ≡ (g.T.Task.meaning l.task).action a)
