use Rattle.heuristics.proofs.Facts.{admissible}
use Rattle.heuristics.proofs.bound_admissible.Goals as goal

pub returns : goal.returns
returns c = admissible
