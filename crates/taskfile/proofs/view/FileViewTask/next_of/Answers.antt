use Rattle.std.proofs.Common.{◌∙◌, subst}
use Rattle.strips.specs.Parts.{FirstFrom}
use Rattle.taskfile.proofs.Views.{view_held}
use Rattle.taskfile.proofs.view.FileViewTask.next_of.Goals as goal

pub returns : goal.returns
returns c = subst (λ A. FirstFrom A c.args.from c.next.result) (c.set_of.ensures ∙ view_held c.args.self.now c.args.part) c.next.ensures
