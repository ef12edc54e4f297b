use Rattle.heuristics.proofs.Finite.{bounds_estimate}
use Rattle.heuristics.proofs.bound_estimates.Goals as goal

pub returns : goal.returns
returns c = bounds_estimate
