use Rattle.std.proofs.Common.{sym, ap, ◌∙◌}
use Rattle.strips.specs.Parts.{part_of}
use Rattle.taskfile.specs.View.{view_task}
use Rattle.taskfile.proofs.Views.{held, view_start, view_goal}
use Rattle.taskfile.proofs.view.FileViewTask.set_of.Goals as goal

pub returns-in-Start : goal.returns-in-Start
returns-in-Start c =
    held c.args.self.now.start _ (sym (view_start c.args.self.now) ∙ ap (part_of (view_task c.args.self.now)) (sym c.in-Start.is))

pub returns-in-Goal : goal.returns-in-Goal
returns-in-Goal c =
    held c.args.self.now.goal _ (sym (view_goal c.args.self.now) ∙ ap (part_of (view_task c.args.self.now)) (sym c.in-Goal.is))
