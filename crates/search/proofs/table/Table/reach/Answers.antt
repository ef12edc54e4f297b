use Rattle.search.proofs.Places.{not_closed-reach}
use Rattle.search.proofs.table.Table.reach.Goals as goal

pub returns-clause-closed : goal.returns-clause-closed
returns-clause-closed c = not_closed-reach _ _ _ _ _ c.requires c.args.self.now.used_in c.reach.ensures
