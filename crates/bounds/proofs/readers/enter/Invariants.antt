use Rattle.std.proofs.Common.{◌≡◌, length}
use Rattle.strips.specs.Bits.{members}
use Rattle.bounds.proofs.Reading.{EnteredBut}
use Rattle.bounds.proofs.readers.enter.Given as goal

abbrev pub invariant-loop-atom : goal.invariant-loop-atom
invariant-loop-atom l = (length l.block ≡ 64) × EnteredBut l.initial.block l.block (members l.fn.needs) (members l.atom-iterator.rest) l.action
