use Rattle.strips.specs.Parts.{part_of}
use Rattle.strips.proofs.Listing.{ListedTo}
use Rattle.strips.proofs.task.Task.list_of.Given as goal

abbrev pub invariant-loop-count : goal.invariant-loop-count
invariant-loop-count g l = ListedTo (part_of (g.Self.Task.meaning l.self) l.part) l.from l.at l.count l.list
