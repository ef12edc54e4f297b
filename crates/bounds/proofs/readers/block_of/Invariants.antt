use Rattle.std.proofs.Common.{◌+◌, ◌*◌}
use Rattle.strips.specs.Table.{table_task}
use Rattle.bounds.proofs.Reading.{BlockTo}
use Rattle.bounds.proofs.readers.block_of.Given as goal

abbrev pub invariant-loop-action : goal.invariant-loop-action
invariant-loop-action l = BlockTo (λ a. ((table_task l.task).action (64 * l.block + a)).needs) l.action l.readers
