use Rattle.std.proofs.Common.{sym, ◌∙◌, arith}
use Rattle.taskfile.proofs.Views.{view_atoms}
use Rattle.taskfile.proofs.view.FileViewTask.atoms.Goals as goal

pub returns : goal.returns
returns c = c.from.ensures ∙ sym (view_atoms c.args.self.now (omega arith))
