use Rattle.heuristics.proofs.Forms.{closed}
use Rattle.heuristics.proofs.numbers_closed.Goals as goal

pub returns : goal.returns
returns c = closed
