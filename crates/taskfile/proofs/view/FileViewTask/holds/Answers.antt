use Rattle.std.proofs.Common.{ap, ◌∙◌}
use Rattle.strips.specs.Sets.{Atoms}
use Rattle.taskfile.proofs.Views.{view_held}
use Rattle.taskfile.proofs.view.FileViewTask.holds.Goals as goal

pub returns : goal.returns
returns c = c.has.ensures ∙ ap (λ (A : Atoms). A c.args.atom) (c.set_of.ensures ∙ view_held c.args.self.now c.args.part)
