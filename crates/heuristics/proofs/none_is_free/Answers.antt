use Rattle.heuristics.proofs.Finite.{any_top}
use Rattle.heuristics.proofs.none_is_free.Goals as goal

pub returns : goal.returns
returns c = any_top
