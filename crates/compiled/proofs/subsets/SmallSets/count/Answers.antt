use Rattle.compiled.proofs.Numbering.{one_count, two_count, tri_all}
use Rattle.compiled.proofs.subsets.SmallSets.count.Goals as goal

pub returns-in-One : goal.returns-in-One
returns-in-One c = rw (c.in-One.is, one_count)

pub returns-in-Two : goal.returns-in-Two
returns-in-Two c = rw (c.in-Two.is, two_count) (tri_all c.args.self.atoms)
