use Rattle.heuristics.proofs.Facts.{one_bound}
use Rattle.heuristics.proofs.bound_is_one.Goals as goal

pub returns : goal.returns
returns c = one_bound
