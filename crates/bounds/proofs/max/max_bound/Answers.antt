use Rattle.std.proofs.Common.{sym, arith}
use Rattle.std.proofs.lemmas.List.{length-take-le}
use Rattle.bounds.proofs.max.max_bound.Goals as goal

-- a task has at most as many actions as there are places
pub slice_bounds-settle-end : goal.slice_bounds-settle-end
slice_bounds-settle-end g c = sym (length-take-le _ _ (let s = (g.T.Task.sound c.args.task.now).actions_in in let a = c.actions.ensures in omega arith))
