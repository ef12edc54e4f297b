use Rattle.std.proofs.Common.{rules}
use Rattle.compiled.proofs.Scoped.{set_scoped}
use Rattle.compiled.proofs.subsets.SmallSets.has.Goals as goal

pub returns : goal.returns
returns c = set_scoped c.args.self.order c.args.self.atoms c.args.number c.args.scope c.at.result c.is_some_and.result c.args.self.few c.at.ensures (search rules)
