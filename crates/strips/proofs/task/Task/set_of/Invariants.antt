use Rattle.std.proofs.Common.{◌≡◌}
use Rattle.strips.specs.Bits.{members}
use Rattle.strips.specs.Parts.{part_of}
use Rattle.strips.specs.Sets.{clipped}
use Rattle.strips.proofs.task.Task.set_of.Given as goal

abbrev pub invariant-loop-atom : goal.invariant-loop-atom
invariant-loop-atom g l = members l.set ≡ clipped l.atom (part_of (g.Self.Task.meaning l.self) l.part)
