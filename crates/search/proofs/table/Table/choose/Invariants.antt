use Rattle.std.proofs.Common.{IfSome}
use Rattle.search.specs.Table.{IsOpen}
use Rattle.search.proofs.table.Table.choose.Given as goal

abbrev pub invariant-loop-at : goal.invariant-loop-at
invariant-loop-at l = IfSome l.best (IsOpen l.self)
