use Rattle.std.proofs.Common.{◌+◌, ◌≤◌, length, ap, ◌∙◌, arith}
use Rattle.strips.specs.Rows.{row_action}
use Rattle.taskfile.specs.Content.{entry_of}
use Rattle.taskfile.specs.Format.{entry_bytes}
use Rattle.taskfile.specs.Writing.{written}
use Rattle.taskfile.proofs.Writes.{written_none, then_written, front, front_part, row_front, row_length}
use Rattle.taskfile.proofs.writer.put_rows.Goals as goal

pub loop-action-init : goal.loop-action-init
loop-action-init g c = (written_none c.args.out.now c.args.at, omega arith)

pub put_row-place-requires : goal.put_row-place-requires
put_row-place-requires g c =
    let t = g.T.Task.meaning c.args.task.now in
    omega (arith, row_length t c.loop-action.action c.row.result c.row.ensures, front_part t (c.loop-action.action + 1) t.actions (omega arith), c.requires, c.loop-action.invariant.1)

pub loop-action-preserved : goal.loop-action-preserved
loop-action-preserved g c =
    let t = g.T.Task.meaning c.args.task.now in
    let room : c.args.at + length (front t c.loop-action.action) ≤ length c.args.out.now = omega (arith, front_part t c.loop-action.action t.actions (omega arith), c.requires) in (
      then_written c.args.out.now c.loop-action.out _ c.args.at c.loop-action.place (front t c.loop-action.action) (entry_bytes (entry_of (row_action c.row.result))) c.loop-action.invariant.0 c.loop-action.invariant.1 c.put_row-place.ensures.bytes room
          ∙ ap (written c.args.out.now c.args.at) (row_front t c.loop-action.action c.row.result c.row.ensures),
      omega (arith, row_length t c.loop-action.action c.row.result c.row.ensures, c.loop-action.invariant.1, c.put_row-place.ensures.after),
    )
