use Rattle.std.proofs.Common.{sym}
use Rattle.taskfile.proofs.Views.{view_actions}
use Rattle.taskfile.proofs.view.FileViewTask.actions.Goals as goal

pub returns : goal.returns
returns c = sym (view_actions c.args.self.now)
