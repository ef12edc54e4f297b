use Rattle.std.proofs.Common.{◌≡◌, ℕ, ◌<◌, [], length, get_or}
use Rattle.strips.specs.Table.{table_task}
use Rattle.bounds.specs.Readers.{ReadsBlock}
use Rattle.bounds.proofs.readers.Readers.of.Given as goal

abbrev pub invariant-loop-number : goal.invariant-loop-number
invariant-loop-number l = (length l.block-items ≡ 4) × ((b : ℕ) → b < l.number → ReadsBlock (table_task l.task) b (get_or l.block-items b []))
