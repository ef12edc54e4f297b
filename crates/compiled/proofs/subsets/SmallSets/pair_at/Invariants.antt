use Rattle.std.proofs.Common.{◌≡◌, ◌+◌}
use Rattle.compiled.proofs.Numbering.{tri}
use Rattle.compiled.proofs.subsets.SmallSets.pair_at.Given as goal

abbrev pub invariant-loop-high : goal.invariant-loop-high
invariant-loop-high l = tri l.high + l.low ≡ l.place
