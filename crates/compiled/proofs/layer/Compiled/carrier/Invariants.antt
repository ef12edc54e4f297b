use Rattle.std.proofs.Common.{◌≡◌, ◌+◌, length}
use Rattle.bounds.specs.Orders.{size_of}
use Rattle.heuristics.specs.Compiled.{flat, carriers}
use Rattle.compiled.proofs.layer.Compiled.carrier.Given as goal

abbrev pub invariant-loop-action : goal.invariant-loop-action
invariant-loop-action g l = length (flat l.action (carriers (size_of l.self.order) (g.T.Task.meaning l.self.task))) + l.place ≡ l.number
