use Rattle.std.proofs.Common.{rules}
use Rattle.strips.specs.Parts.{part_of}
use Rattle.bounds.specs.Orders.{size_of}
use Rattle.heuristics.specs.Compiled.{compiled}
use Rattle.compiled.proofs.Compiling.{held}
use Rattle.compiled.proofs.layer.CompiledTask.holds.Goals as goal

pub returns : goal.returns
returns g c =
    let v = c.args.self.now in
    let t = g.T.Task.meaning v.task in
    held v.order t c.args.atom (part_of (compiled (size_of v.order) t) c.args.part) c.sets-sets.result c.scope.result c.is_some_and.result c.sets-sets.ensures.atoms c.sets-sets.ensures.order c.scope.ensures (search rules)
