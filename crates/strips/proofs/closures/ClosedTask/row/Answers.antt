use Rattle.strips.proofs.Layered.{idle_row}
use Rattle.strips.proofs.closures.ClosedTask.row.Goals as goal

pub returns-then-is_closed : goal.returns-then-is_closed
returns-then-is_closed g c = idle_row ((g.T.Task.meaning c.args.self.now.task).action c.args.action) c.row-row.result _ c.row-row.ensures c.if-is_closed.ensures
