use Rattle.heuristics.proofs.Facts.{consistency}
use Rattle.heuristics.proofs.bound_consistent.Goals as goal

pub returns : goal.returns
returns c = consistency
