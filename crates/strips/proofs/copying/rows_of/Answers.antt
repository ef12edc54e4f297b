use Rattle.std.proofs.Common.{◌∙◌, length-set, arith}
use Rattle.strips.proofs.Layered.{small_parts}
use Rattle.strips.proofs.Rowed.{copied_more, copied_all, row_whole}
use Rattle.strips.proofs.copying.rows_of.Goals as goal

pub loop-action-preserved : goal.loop-action-preserved
loop-action-preserved g c =
    let t = g.T.Task.meaning c.args.task.now in
    let few = small_parts t c.requires in
    let long = c.loop-action.invariant.0 in (
      length-set _ _ _ ∙ long,
      copied_more t c.loop-action.row-items c.loop-action.action c.row.result (omega arith)
          (row_whole t (g.T.Task.sound c.args.task.now) few.0 c.loop-action.action c.row.result c.row.ensures)
          c.loop-action.invariant.1,
    )

pub returns : goal.returns
returns g c =
    copied_all (g.T.Task.meaning c.args.task.now) (g.T.Task.sound c.args.task.now) c.actions.result c.loop-action.row-items c.loop-action.invariant.0 (λ a l. c.loop-action.invariant.1 a (omega arith))
