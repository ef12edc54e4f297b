use Rattle.std.proofs.Common.{sym, ap, ◌∙◌}
use Rattle.strips.specs.Sets.{Atoms}
use Rattle.taskfile.proofs.Views.{view_goal}
use Rattle.taskfile.proofs.view.FileViewTask.in_goal.Goals as goal

pub returns : goal.returns
returns c = c.has.ensures ∙ ap (λ (A : Atoms). A c.args.atom) (sym (view_goal c.args.self.now))
