use Rattle.std.proofs.Common.{sym, ap, ◌∙◌}
use Rattle.strips.specs.Sets.{Atoms}
use Rattle.taskfile.proofs.Views.{view_start}
use Rattle.taskfile.proofs.view.FileViewTask.in_start.Goals as goal

pub returns : goal.returns
returns c = c.has.ensures ∙ ap (λ (A : Atoms). A c.args.atom) (sym (view_start c.args.self.now))
