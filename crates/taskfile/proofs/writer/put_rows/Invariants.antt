use Rattle.std.proofs.Common.{◌≡◌, ◌+◌, length}
use Rattle.taskfile.specs.Writing.{written}
use Rattle.taskfile.proofs.Writes.{front}
use Rattle.taskfile.proofs.writer.put_rows.Given as goal

abbrev pub invariant-loop-action : goal.invariant-loop-action
invariant-loop-action g l =
    (l.out ≡ written l.initial.out l.at (front (g.T.Task.meaning l.task) l.action))
    × (l.place ≡ l.at + length (front (g.T.Task.meaning l.task) l.action))
