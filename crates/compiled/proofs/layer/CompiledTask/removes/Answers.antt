use Rattle.std.proofs.Common.{sym, ap}
use Rattle.compiled.proofs.Removing.{removes_none}
use Rattle.compiled.proofs.layer.CompiledTask.removes.Goals as goal

pub returns : goal.returns
returns g c = let v = c.args.self.now in sym (ap (λ A. A c.args._atom) (removes_none v.order (g.T.Task.meaning v.task) c.args._action))
