use Rattle.std.proofs.Common.{◌≡◌, ◌-◌, ◌<◌, ◌≤◌, length}
use Rattle.search.specs.Table.{not_closed}
use Rattle.search.proofs.turns.Given as goal

abbrev pub invariant-loop-at : goal.invariant-loop-at
invariant-loop-at g l = l.at ≤ length l.known

abbrev pub decreases-loop-at : goal.decreases-loop-at
decreases-loop-at g l = length l.known - l.at

abbrev pub invariant-actions : goal.invariant-actions
invariant-actions g l =
    (l.chosen < l.table.used)
    × (not_closed l.table ≡ not_closed l.initial.table)

abbrev pub decreases-turns : goal.decreases-turns
decreases-turns g l = not_closed l.table
