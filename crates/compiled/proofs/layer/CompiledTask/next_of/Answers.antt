use Rattle.std.proofs.Common.{Some, sym, subst}
use Rattle.strips.specs.Parts.{part_of, FirstFrom}
use Rattle.bounds.specs.Orders.{size_of}
use Rattle.heuristics.specs.Compiled.{compiled}
use Rattle.compiled.proofs.Compiling.{scope_same}
use Rattle.compiled.proofs.layer.CompiledTask.next_of.Goals as goal

pub returns : goal.returns
returns g c =
    let v = c.args.self.now in
    let t = g.T.Task.meaning v.task in
    subst (λ A. FirstFrom A c.args.from c.next.result)
    (sym (scope_same v.order t (part_of (compiled (size_of v.order) t) c.args.part) c.sets.result (Some c.in_ok-scope.field-0) c.sets.ensures.atoms c.sets.ensures.order c.in_ok-scope.ensures))
    c.next.ensures
