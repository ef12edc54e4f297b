use Rattle.std.proofs.Common.{sym, ap, ◌∙◌, arith}
use Rattle.strips.specs.Rows.{row_action}
use Rattle.taskfile.proofs.Views.{view_past, row_out, no_row}
use Rattle.taskfile.proofs.view.FileView.row_at.Goals as goal

pub returns-then-action-self : goal.returns-then-action-self
returns-then-action-self c = no_row ∙ sym (view_past c.args.self.now c.args.action (omega arith))

pub returns : goal.returns
returns c =
    ap row_action c.unwrap_or.ensures
    ∙ row_out c.args.self.now (omega arith) c.args.action c.if-action-self.false _ _ c.record.result c.record.ensures.reads c.record.ensures.sound
