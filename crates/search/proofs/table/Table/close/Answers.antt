use Rattle.std.proofs.Common.{refl}
use Rattle.search.proofs.Places.{not_closed-close}
use Rattle.search.proofs.table.Table.close.Goals as goal

pub returns-clause-closed : goal.returns-clause-closed
returns-clause-closed c = not_closed-close _ _ _ _ c.requires c.args.self.now.used_in refl
