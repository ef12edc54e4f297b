use Rattle.strips.proofs.Layered.{none_closed}
use Rattle.strips.proofs.closures.Closures.none.Goals as goal

pub returns : goal.returns
returns c = none_closed
