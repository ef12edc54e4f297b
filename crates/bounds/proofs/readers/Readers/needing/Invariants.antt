use Rattle.std.proofs.Common.{◌+◌, ◌*◌}
use Rattle.strips.specs.Task.{Task}
use Rattle.strips.specs.Bits.{members}
use Rattle.bounds.specs.Readers.{Reads}
use Rattle.bounds.proofs.Reading.{FoundBut}
use Rattle.bounds.proofs.readers.Readers.needing.Given as goal

abbrev pub invariant-loop-atom : goal.invariant-loop-atom
invariant-loop-atom l = (t : Task) → Reads t l.self → FoundBut (λ a. (t.action (64 * l.block + a)).needs) (members l.fn.atoms) (members l.atom-iterator.rest) (members l.actions)
