use Rattle.std.proofs.Common.{◌≡◌, ◌+◌}
use Rattle.compiled.proofs.Numbering.{tri}
use Rattle.compiled.proofs.Scoped.{NoneBelow}
use Rattle.compiled.proofs.subsets.SmallSets.next_pair.Given as goal

abbrev pub invariant-loop-high : goal.invariant-loop-high
invariant-loop-high l = (l.base ≡ l.fn.self.atoms + tri l.high) × NoneBelow l.fn.self.atoms l.scope l.from l.high
