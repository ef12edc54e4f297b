use Rattle.std.proofs.Common.{rules}
use Rattle.compiled.proofs.Scoped.{core_alone, core_or_pair}
use Rattle.compiled.proofs.subsets.SmallSets.next.Goals as goal

pub returns-in-One : goal.returns-in-One
returns-in-One c = rw c.in-One.is (core_alone c.args.self.atoms c.args.from c.args.scope c.next_below-single.result c.next_below-single.ensures)

pub returns-in-Two : goal.returns-in-Two
returns-in-Two c = rw c.in-Two.is (core_or_pair c.args.self.atoms c.args.from c.args.scope c.next_below-single.result c.or_else.result c.next_below-single.ensures (search rules))
