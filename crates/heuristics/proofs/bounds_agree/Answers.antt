use Rattle.heuristics.proofs.Agree.{agreement}
use Rattle.heuristics.proofs.bounds_agree.Goals as goal

pub returns : goal.returns
returns c = agreement
