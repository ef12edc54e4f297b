use Rattle.heuristics.proofs.Facts.{zero_at_goal}
use Rattle.heuristics.proofs.zero_at_goal.Goals as goal

pub returns : goal.returns
returns c = zero_at_goal
